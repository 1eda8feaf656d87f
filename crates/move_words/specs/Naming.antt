-- The legal move that a word names: the one that fits it (own to this project).
use Rattle.std.specs.Prelude.{ℕ, ◌==◌, List, [], ◌∷◌, filter, Option, Some, None, Bool, false, ◌&&◌, ◌||◌}
use Rattle.std.specs.Option.{option_map_or}
use Rattle.chess_board.specs.Characters.{char}
use Rattle.chess_board.specs.declared.men.Colour.{Colour}
use Rattle.chess_board.specs.Moves.{Move}
use Rattle.chess_board.specs.Positions.{Setup}
use Rattle.chess_moves.specs.inside.Listing.{legal_moves}
use Rattle.move_words.specs.declared.languages.Letters.{Letters}
use Rattle.move_words.specs.declared.patterns.Pattern.{Pattern}
use Rattle.move_words.specs.declared.naming.Named.{Named}
use Rattle.move_words.specs.declared.naming.Named.TheVariants.{One, No, Several}
use Rattle.move_words.specs.Letters.{is_end, without_number}
use Rattle.move_words.specs.Patterns.{fits, pattern_of}

-- what moves name by which it may be meant: the only one
abbrev pub named_by : List Move → Named
named_by [] = No
named_by (m ∷ []) = One m
named_by (m ∷ n ∷ ms) = Several

abbrev pub fitting : Setup → Option Pattern → List Move
fitting p None = []
fitting p (Some pattern) = filter (fits p pattern) (legal_moves p)

abbrev pub pattern_behind : Letters → Option (List ℕ) → Option Pattern
pattern_behind l None = None
pattern_behind l (Some text) = pattern_of l text

-- What a word names under these letters: the one legal move that fits it behind the number of the first move.
unfoldable pub named : Letters → Setup → List ℕ → Named
named l p word = named_by (fitting p (pattern_behind l (without_number p.side word)))

-- What is true of the one move that is named.
abbrev pub IfOne : Named → (Move → Type 0) → Type 0
IfOne (One m) holds = holds m
IfOne No holds = Unit {0}
IfOne Several holds = Unit {0}

abbrev pub begins_aside : List ℕ → Bool
begins_aside [] = false
begins_aside (b ∷ bs) = (b == char "1") || (b == char "e")

-- A word that stands beside a move: its number, `1.` or `1...`, or `ep` or `e.p.`.
unfoldable pub is_aside : Colour → List ℕ → Bool
is_aside side word = begins_aside word && option_map_or is_end (without_number side word) false

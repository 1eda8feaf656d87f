-- The parts of a word, in their order (own to this project).
use Rattle.std.specs.Prelude.{ℕ, ◌==◌, List, [], ◌∷◌, Option, Some, None, Bool, ◌&&◌, ◌||◌, if◌then◌else◌}
use Rattle.chess_board.specs.Characters.{char}
use Rattle.chess_board.specs.declared.men.Kind.{Kind}
use Rattle.chess_board.specs.declared.men.Wing.{Wing}
use Rattle.chess_board.specs.declared.men.Wing.TheVariants.{KingSide, QueenSide}
use Rattle.move_words.specs.declared.letters.Sign.{Sign}
use Rattle.move_words.specs.declared.places.Place.{Place}
use Rattle.move_words.specs.declared.parts.Parts.{Parts}
use Rattle.move_words.specs.declared.languages.Letters.{Letters}
use Rattle.move_words.specs.Letters.{behind, behind_man, first_man, is_end, kind_becoming, said, sign_of}
use Rattle.move_words.specs.Places.{after_place, place}

-- the text behind the sign before what a pawn becomes, if it is there
abbrev pub after_opening : List ℕ → List ℕ
after_opening [] = []
after_opening (b ∷ bs) = if (b == char "=") || (b == char "(") || (b == char "/") then bs else b ∷ bs

-- behind a man's letter, a place, a sign and another place
abbrev pub parts_before : Letters → Option Kind → Place → Option Sign → Place → List ℕ → Parts
parts_before l man first sign second rest = record {
  man = man;
  first = first;
  sign = sign;
  second = second;
  promotion = said (kind_becoming l) (after_opening rest);
  is_ended = is_end (behind (kind_becoming l) (after_opening rest));
}

-- behind a man's letter and a place
abbrev pub parts_behind : Letters → Option Kind → Place → List ℕ → Parts
parts_behind l man first rest =
    parts_before l man first (said sign_of rest) (place (behind sign_of rest)) (after_place (behind sign_of rest))

abbrev pub parts_of : Letters → List ℕ → Parts
parts_of l word = parts_behind l (first_man l word) (place (behind_man l word)) (after_place (behind_man l word))

abbrev pub is_oh : ℕ → Bool
is_oh b = (b == char "O") || (b == char "0")

abbrev pub wing_if : Wing → List ℕ → Option Wing
wing_if wing text = if is_end text then Some wing else None

abbrev pub wing_behind : List ℕ → Option Wing
wing_behind (a ∷ b ∷ bs) = if (a == char "-") && is_oh b then wing_if QueenSide bs else wing_if KingSide (a ∷ b ∷ bs)
wing_behind text = wing_if KingSide text

-- `O-O` and `O-O-O`, each O perhaps the digit 0
abbrev pub castling_wing : List ℕ → Option Wing
castling_wing (a ∷ b ∷ c ∷ bs) = if is_oh a && (b == char "-") && is_oh c then wing_behind bs else None
castling_wing word = None

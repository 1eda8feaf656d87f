-- Which words are a FEN or a record, in place of codes.
use Rattle.std.specs.Prelude.{ℕ, nat_le, Bool, List, [], ◌∷◌, ◌++◌, flat_map}
use Rattle.std.specs.List.{list_any}
use Rattle.chess_board.specs.Characters.{char}
use Rattle.chess_board.specs.Fields.{times}
use Rattle.chess_notation.specs.Words.{word_at}
use Rattle.fen_explanations.specs.Told.{Tells}

-- At least three slashes stand in the first part of a word, as in a placement.
unfoldable pub begins_with_placement : List ℕ → Bool
begins_with_placement word = nat_le 3 (times (char "/") (word_at word))

-- One of the words begins with a placement.
abbrev pub say_position : List (List ℕ) → Bool
say_position words = list_any begins_with_placement words

-- words with a space between each two
unfoldable pub joined : List (List ℕ) → List ℕ
joined [] = []
joined (word ∷ words) = word ++ flat_map (λ next. char " " ∷ next) words

-- What is told of words, joined.
abbrev pub TellsWords : List (List ℕ) → Bool → List ℕ → Type 0
TellsWords words faulty shown = Tells (joined words) faulty shown

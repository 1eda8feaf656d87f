-- What a word says of a square: its file and its rank, each or neither.
use Rattle.std.specs.Prelude.{ℕ, ◌==◌, List, Option, Some, None, is_some, Bool, true, not, ◌&&◌}
use Rattle.chess_board.specs.Squares.{file_of, rank_of}
use Rattle.move_words.specs.declared.places.Place.{Place}
use Rattle.move_words.specs.Letters.{behind, file_of_letter, rank_of_digit, said}

-- a file's letter and a rank's digit, each if it is there
abbrev pub place : List ℕ → Place
place text = record { file = said file_of_letter text; rank = said rank_of_digit (behind file_of_letter text) }

abbrev pub after_place : List ℕ → List ℕ
after_place text = behind rank_of_digit (behind file_of_letter text)

abbrev pub is_square : Place → Bool
is_square place = is_some place.file && is_some place.rank

abbrev pub is_nowhere : Place → Bool
is_nowhere place = not (is_some place.file) && not (is_some place.rank)

-- The number is what is said, if something is.
abbrev pub is_said : Option ℕ → ℕ → Bool
is_said None number = true
is_said (Some n) number = n == number

-- What is said is true of a square.
abbrev pub is_at : Place → ℕ → Bool
is_at place square = is_said place.file (file_of square) && is_said place.rank (rank_of square)

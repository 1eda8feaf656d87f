-- Words that stand behind one that says what they are (UCI, April 2006).
use Rattle.std.specs.Prelude.{ℕ, ◌&&◌, Bool, false, true, List, [], ◌∷◌, Option, None, Some, length, min, nat_lt, if◌then◌else◌}
use Rattle.std.specs.List.{list_all}
use Rattle.std.specs.Str.{bytes_eq}
use Rattle.chess_board.specs.Fields.{digits_value}
use Rattle.chess_notation.specs.Operations.{is_digit}

-- the words before the first that is this one; all where none is
abbrev pub before : List ℕ → List (List ℕ) → List (List ℕ)
before mark [] = []
before mark (word ∷ words) = if bytes_eq word mark then [] else word ∷ before mark words

-- the words behind the first that is this one; none where none is
abbrev pub behind : List ℕ → List (List ℕ) → List (List ℕ)
behind mark [] = []
behind mark (word ∷ words) = if bytes_eq word mark then words else behind mark words

-- the word is one of them
abbrev pub says : List ℕ → List (List ℕ) → Bool
says mark [] = false
says mark (word ∷ words) = if bytes_eq word mark then true else says mark words

-- no number is larger: it is the nanoseconds of a second, and as milliseconds more than eleven days
abbrev pub max_number : ℕ
max_number = 1000000000

-- the number that digits spell, the greatest where it would be larger; none where the word is no digits
unfoldable pub number_of : List ℕ → Option ℕ
number_of word = if nat_lt 0 (length word) && list_all is_digit word then Some (min (digits_value word) max_number) else None

abbrev pub first_number : List (List ℕ) → Option ℕ
first_number [] = None
first_number (word ∷ words) = number_of word

-- the number behind the first word that is this one
abbrev pub number_behind : List ℕ → List (List ℕ) → Option ℕ
number_behind mark words = first_number (behind mark words)

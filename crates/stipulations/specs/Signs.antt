-- Where the sign of a mate stands: `#2`, `2#`, `h#2`, `-#4` (own to this project).
use Rattle.std.specs.Prelude.{ℕ, ◌==◌, List, [], ◌∷◌, codes, Bool, false, is_some, not, ◌||◌, ◌&&◌, if◌then◌else◌}
use Rattle.std.specs.Char.{is_ascii_alphabetic, is_ascii_digit}
use Rattle.chess_board.specs.Characters.{char}
use Rattle.stipulations.specs.declared.numbers.Language.TheVariants.{Signs}
use Rattle.stipulations.specs.Parts.{begins_with, is_space}
use Rattle.stipulations.specs.Patterns.{nothing, number_between}

-- the sign of a mate directly before a digit
abbrev pub has_sign_before_digit : (text : List ℕ) → Bool
has_sign_before_digit [] = false
has_sign_before_digit (b ∷ bs) = (b == char "#") && begins_with is_ascii_digit bs || has_sign_before_digit bs

-- digits with that sign directly behind them
abbrev pub is_digits_and_sign : (text : List ℕ) → Bool
is_digits_and_sign [] = false
is_digits_and_sign (b ∷ bs) = is_ascii_digit b && (begins_with (λ next. next == char "#") bs || is_digits_and_sign bs)

-- such digits with a space or nothing before them
abbrev pub has_digits_before_sign : (before : ℕ) → (text : List ℕ) → Bool
has_digits_before_sign before [] = false
has_digits_before_sign before (b ∷ bs) = is_space before && is_digits_and_sign (b ∷ bs) || has_digits_before_sign b bs

abbrev pub fronts_of_answers : List (List ℕ)
fronts_of_answers = codes "-#" ∷ codes "no mate in " ∷ []

-- what is answered, and asks nothing: an engine's `-#4`, which says that it will be mated, and `no mate in 3`
abbrev pub is_answer : (text : List ℕ) → Bool
is_answer text = is_some (number_between Signs fronts_of_answers nothing text)

-- where a word begins, in parentheses or not
abbrev pub begins_word : (before : ℕ) → Bool
begins_word before = is_space before || (before == char "(")

-- `b)`, as twins are named: one letter, and behind it a parenthesis
abbrev pub has_twin : (before : ℕ) → (text : List ℕ) → Bool
has_twin before [] = false
has_twin before (b ∷ bs) =
    begins_word before && is_ascii_alphabetic b && begins_with (λ next. next == char ")") bs || has_twin b bs

abbrev pub is_letter_or_hyphen : ℕ → Bool
is_letter_or_hyphen b = is_ascii_alphabetic b || (b == char "-")

-- `h#2`, `s-#2`
abbrev pub has_joined_sign : (before : ℕ) → (text : List ℕ) → Bool
has_joined_sign before [] = false
has_joined_sign before (b ∷ bs) = is_letter_or_hyphen before && (b == char "#") && begins_with is_ascii_digit bs || has_joined_sign b bs

-- what may stand between a word and the sign that is its own
abbrev pub is_between : ℕ → Bool
is_between b =
    is_space b || (b == char ".") || (b == char ":") || (b == char "-") || (b == char "(") || (b == char ")") || (b == char ",")

-- behind any of these the sign of a mate and a digit, or digits and the sign
abbrev pub has_sign_behind : (text : List ℕ) → Bool
has_sign_behind [] = false
has_sign_behind (b ∷ bs) =
    if is_between b then has_sign_behind bs else (b == char "#") && begins_with is_ascii_digit bs || is_digits_and_sign (b ∷ bs)

-- the same, and at least one of these
abbrev pub has_sign_apart : (text : List ℕ) → Bool
has_sign_apart text = begins_with is_between text && has_sign_behind text

-- a letter, and then a sign apart
abbrev pub has_letter_and_sign : (text : List ℕ) → Bool
has_letter_and_sign [] = false
has_letter_and_sign (b ∷ bs) = is_ascii_alphabetic b && has_sign_apart bs

-- one letter or two, and then a sign apart
abbrev pub has_front : (text : List ℕ) → Bool
has_front [] = false
has_front (b ∷ bs) = is_ascii_alphabetic b && (has_sign_apart bs || has_letter_and_sign bs)

-- `H. #2`, `hm: #2`: the sign of a mate behind a word of one or two letters
abbrev pub has_parted_sign : (before : ℕ) → (text : List ℕ) → Bool
has_parted_sign before [] = false
has_parted_sign before (b ∷ bs) = not (is_ascii_alphabetic before) && has_front (b ∷ bs) || has_parted_sign b bs

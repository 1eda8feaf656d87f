-- How many men a diagram has, as it is told below it: `(5+6)`, White's first (own to this project).
use Rattle.std.specs.Prelude.{◌==◌, ℕ, List, [], ◌∷◌, Bool, false, Option, Some, None, not, ◌||◌, ◌&&◌}
use Rattle.std.specs.Char.{is_ascii_digit}
use Rattle.chess_board.specs.Characters.{char}
use Rattle.stipulations.specs.Numbers.{digits_number}
use Rattle.stipulations.specs.Parts.{begins_with}
use Rattle.stipulations.specs.Patterns.{behind_run, run}

-- The digits say this number.
abbrev pub is_number : Option ℕ → ℕ → Bool
is_number None n = false
is_number (Some m) n = m == n

-- The text begins with digits, and they say another number.
abbrev pub begins_with_other : ℕ → (text : List ℕ) → Bool
begins_with_other n text = not (is_number (digits_number (run is_ascii_digit text)) n)

-- digits with such a sign behind them
abbrev pub is_counted : (sign : ℕ) → (text : List ℕ) → Bool
is_counted sign text = begins_with is_ascii_digit text && begins_with (λ b. b == sign) (behind_run is_ascii_digit text)

abbrev pub without_first : List ℕ → List ℕ
without_first [] = []
without_first (b ∷ bs) = bs

-- what stands behind the first number and its plus sign
abbrev pub second : List ℕ → List ℕ
second text = without_first (behind_run is_ascii_digit text)

-- The text begins with two numbers, a plus sign between them and a parenthesis behind.
abbrev pub is_sum : List ℕ → Bool
is_sum text = is_counted (char "+") text && is_counted (char ")") (second text)

-- In parentheses stand two numbers that aren't these.
abbrev pub tells_other_men : (white black : ℕ) → (text : List ℕ) → Bool
tells_other_men white black [] = false
tells_other_men white black (b ∷ bs) =
    (b == char "(") && (is_sum bs && (begins_with_other white bs || begins_with_other black (second bs))) || tells_other_men white black bs

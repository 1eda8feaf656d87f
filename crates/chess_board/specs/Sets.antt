-- Sets of the squares of a board, as words of 64 bits.
use Rattle.std.specs.Prelude.{◌≡◌, ℕ, ◌<◌, List, Option, Bool}
use Rattle.square_sets.specs.Members.{has}
use Rattle.chess_board.specs.declared.men.Man.{Man}
use Rattle.chess_board.specs.Positions.{man_at}

-- The set has exactly the squares of the board on which what stands passes the test.
abbrev pub IsSetOf : ℕ → (Option Man → Bool) → List (Option Man) → Type 0
IsSetOf set passes men = (square : ℕ) → square < 64 → has set square ≡ passes (man_at men square)

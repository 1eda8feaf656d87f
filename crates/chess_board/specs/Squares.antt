-- The squares of the board (FIDE Laws of Chess, article 2), numbered a1 = 0, b1 = 1, .. h1 = 7, a2 = 8, .. h8 = 63.
-- Files and ranks are counted from 0: the a-file and the first rank are 0.
use Rattle.std.specs.Prelude.{ℕ, zero, suc, ◌+◌, ◌-◌, ◌/◌, ◌%◌, Bool, true, false, ◌&&◌, ◌||◌}

abbrev pub file_of : ℕ → ℕ
file_of square = square % 8

abbrev pub rank_of : ℕ → ℕ
rank_of square = square / 8

-- how far apart two numbers are
abbrev pub gap : ℕ → ℕ → ℕ
gap a b = (a - b) + (b - a)

-- how many files, and how many ranks, lie from one square to another
abbrev pub file_gap : ℕ → ℕ → ℕ
file_gap a b = gap (file_of a) (file_of b)

abbrev pub rank_gap : ℕ → ℕ → ℕ
rank_gap a b = gap (rank_of a) (rank_of b)

-- whether some number below n passes a test
unfoldable pub any_below : ℕ → (ℕ → Bool) → Bool
any_below zero passes = false
any_below (suc n) passes = any_below n passes || passes n

-- whether each number below n passes a test
unfoldable pub all_below : ℕ → (ℕ → Bool) → Bool
all_below zero passes = true
all_below (suc n) passes = all_below n passes && passes n

-- whether some square passes a test
abbrev pub some_square : (ℕ → Bool) → Bool
some_square passes = any_below 64 passes

-- whether each square passes a test
abbrev pub each_square : (ℕ → Bool) → Bool
each_square passes = all_below 64 passes

-- the square in the middle of a double step, and the one that a castling king crosses
abbrev pub crossed : ℕ → ℕ → ℕ
crossed a b = (a + b) / 2

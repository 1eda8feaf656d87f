-- Not for believing: the squares that the code meets when it walks from one square to another.
use Rattle.std.specs.Prelude.{ℕ, ◌+◌, ◌-◌, ◌*◌, if◌then◌else◌, nat_lt}
use Rattle.chess_board.specs.Squares.{file_of, rank_of}

-- the number so many steps from a in the direction of b
abbrev pub toward_of : ℕ → ℕ → ℕ → ℕ
toward_of a b steps = if nat_lt a b then a + steps else (if nat_lt b a then a - steps else a)

-- the square so many steps from a in the direction of b
abbrev pub walked : ℕ → ℕ → ℕ → ℕ
walked a b steps = 8 * toward_of (rank_of a) (rank_of b) steps + toward_of (file_of a) (file_of b) steps

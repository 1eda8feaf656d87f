-- What a problem asks: whether the side to move mates within so many of its moves, the first of them none of those to avoid.
use Rattle.std.specs.Prelude.{ℕ, List, Option, Some, None, ◌&&◌, nat_le, if◌then◌else◌}
use Rattle.chess_board.specs.Positions.{Setup}
use Rattle.chess_board.specs.Moves.{Move}

-- the greatest number of moves of the attacker within which mate is asked for
abbrev pub max_bound : ℕ
max_bound = 15

-- the bound, where the number is one
abbrev pub bound_of : ℕ → Option ℕ
bound_of n = if nat_le 1 n && nat_le n max_bound then Some n else None

pub record ProblemValue : Type 0 where
  pub position : Setup
  pub bound : ℕ
  pub avoid : List Move

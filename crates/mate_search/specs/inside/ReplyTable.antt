-- Not for believing: what the table of replies keeps.
use Rattle.std.specs.Prelude.{ℕ, Bool}
use Rattle.chess_board.specs.Positions.{Setup}

-- whether the defender is lost in a position, with so many moves left to the attacker
pub record JudgedValue : Type 0 where
  pub position : Setup
  pub moves : ℕ
  pub is_lost : Bool

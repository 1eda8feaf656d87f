-- A side that passes (own to this project: no rule of chess allows it).
use Rattle.std.specs.Prelude.{Option, Some, None, if◌then◌else◌}
use Rattle.chess_board.specs.Positions.{Setup}
use Rattle.chess_board.specs.Men.{other_side}
use Rattle.chess_board.specs.Attacks.{is_in_check}

-- The same men and rights with the other side to move, and no square to capture en passant on; none where the side that passes is in
-- check, since its king could then be captured.
unfoldable pub passed : Setup → Option Setup
passed p = if is_in_check p.men p.side then None else Some (record { men = p.men; side = other_side p.side; rights = p.rights; target = None })

-- Which moves are legal: those that the rules allow and that leave the mover's own king unattacked (FIDE Laws of Chess,
-- articles 3.9.2 and 3.10.1).
use Rattle.std.specs.Prelude.{Bool, ◌&&◌, not}
use Rattle.chess_board.specs.Moves.{Move}
use Rattle.chess_board.specs.Positions.{Setup}
use Rattle.chess_board.specs.Attacks.{is_in_check}
use Rattle.chess_board.specs.PseudoLegal.{is_pseudo_legal}
use Rattle.chess_board.specs.MakeMove.{after_setup}

-- After the move the king of the side that moved is not attacked.
unfoldable pub is_safe : Setup → Move → Bool
is_safe p m = not (is_in_check (after_setup p m).men p.side)

unfoldable pub is_legal : Setup → Move → Bool
is_legal p m = is_pseudo_legal p m && is_safe p m

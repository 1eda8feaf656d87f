-- Moves that give check (FIDE Laws of Chess, article 3.9.1).
use Rattle.std.specs.Prelude.{Bool, List, filter}
use Rattle.chess_board.specs.Positions.{Setup}
use Rattle.chess_board.specs.Attacks.{is_in_check}
use Rattle.chess_board.specs.Moves.{Move}
use Rattle.chess_board.specs.MakeMove.{after_setup}
use Rattle.chess_moves.specs.inside.Listing.{legal_moves}

-- After the move the king of the side then to move is attacked.
unfoldable pub gives_check : Setup → Move → Bool
gives_check p m = is_in_check (after_setup p m).men (after_setup p m).side

-- the legal moves that give check
unfoldable pub checking_moves : Setup → List Move
checking_moves p = filter (gives_check p) (legal_moves p)

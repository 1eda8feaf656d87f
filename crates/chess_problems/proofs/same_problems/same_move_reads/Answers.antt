use Rattle.chess_problems.proofs.SameMoves.{same_moves}
use Rattle.chess_problems.proofs.same_problems.same_move_reads.Goals as goal

pub returns : goal.returns
returns c = same_moves

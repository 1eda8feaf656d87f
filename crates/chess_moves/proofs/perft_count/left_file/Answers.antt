use Rattle.chess_moves.proofs.PawnShifts.{has-a_file, has-h_file}
use Rattle.chess_moves.proofs.perft_count.left_file.Goals as goal

pub returns-in-White : goal.returns-in-White
returns-in-White c = λ s l. rw c.in-White.is (has-a_file s l)

pub returns-in-Black : goal.returns-in-Black
returns-in-Black c = λ s l. rw c.in-Black.is (has-h_file s l)

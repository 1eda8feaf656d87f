use Rattle.chess_moves.proofs.PawnShifts.{has-third, has-sixth}
use Rattle.chess_moves.proofs.perft_count.third_rank.Goals as goal

pub returns-in-White : goal.returns-in-White
returns-in-White c = λ s l. rw c.in-White.is (has-third s l)

pub returns-in-Black : goal.returns-in-Black
returns-in-Black c = λ s l. rw c.in-Black.is (has-sixth s l)

use Rattle.chess_moves.specs.inside.Shifts.{rank_before}
use Rattle.chess_moves.proofs.LastRanks.{has-seventh, has-second}
use Rattle.chess_moves.proofs.mating_men.rank_before_last.Goals as goal

pub returns-in-White : goal.returns-in-White
unfolding rank_before
returns-in-White c = λ s l. rw c.in-White.is (has-seventh s l)

pub returns-in-Black : goal.returns-in-Black
unfolding rank_before
returns-in-Black c = λ s l. rw c.in-Black.is (has-second s l)

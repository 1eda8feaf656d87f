use Rattle.mate_search.proofs.FirstMoves.{first_moves_each}
use Rattle.mate_search.proofs.solving.first_moves.Goals as goal

pub returns-clause-legal : goal.returns-clause-legal
returns-clause-legal c = rw c.push_first_moves.ensures (first_moves_each c.args.problem.now)

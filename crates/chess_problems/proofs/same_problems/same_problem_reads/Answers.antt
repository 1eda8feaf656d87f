use Rattle.chess_problems.proofs.SameProblems.{same_reads}
use Rattle.chess_problems.proofs.same_problems.same_problem_reads.Goals as goal

pub returns : goal.returns
returns c = same_reads c.equal_reads.ensures

use Rattle.std.proofs.Common.{◌≡◌, length}
use Rattle.chess_problems.specs.SameProblems.{are_same_moves}
use Rattle.chess_problems.proofs.same_problems.are_same_moves.Given as goal

abbrev pub invariant-loop-left : goal.invariant-loop-left
invariant-loop-left l = are_same_moves l.left l.right ≡ are_same_moves l.first l.second

abbrev pub decreases-loop-left : goal.decreases-loop-left
decreases-loop-left l = length l.left

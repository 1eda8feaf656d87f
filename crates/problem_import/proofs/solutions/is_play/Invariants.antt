use Rattle.std.proofs.Common.{◌≡◌, length}
use Rattle.problem_import.specs.Solutions.{is_play}
use Rattle.problem_import.proofs.solutions.is_play.Given as goal

abbrev pub invariant-loop-part : goal.invariant-loop-part
invariant-loop-part l = is_play l.rest ≡ is_play l.operands

abbrev pub decreases-loop-part : goal.decreases-loop-part
decreases-loop-part l = length l.rest

use Rattle.std.proofs.Common.{◌≡◌, length}
use Rattle.problem_import.specs.Numbers.{bound_among, parts_of}
use Rattle.problem_import.proofs.mending.bound_in.Given as goal

abbrev pub invariant-loop-segment : goal.invariant-loop-segment
invariant-loop-segment l = bound_among (parts_of 59 l.rest) ≡ bound_among (parts_of 59 l.operations)

abbrev pub decreases-loop-segment : goal.decreases-loop-segment
decreases-loop-segment l = length l.rest

use Rattle.std.proofs.Common.{◌≡◌, length}
use Rattle.problem_import.specs.Solutions.{has_square}
use Rattle.problem_import.proofs.solutions.has_square.Given as goal

abbrev pub invariant-loop-rest : goal.invariant-loop-rest
invariant-loop-rest l = has_square l.rest ≡ has_square l.word

abbrev pub decreases-loop-rest : goal.decreases-loop-rest
decreases-loop-rest l = length l.rest

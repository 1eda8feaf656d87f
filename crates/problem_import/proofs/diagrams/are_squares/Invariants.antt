use Rattle.std.proofs.Common.{◌≡◌, length}
use Rattle.problem_import.specs.PopeyeProblems.{are_squares_on}
use Rattle.problem_import.proofs.diagrams.are_squares.Given as goal

abbrev pub invariant-loop-rest : goal.invariant-loop-rest
invariant-loop-rest l = are_squares_on l.rest ≡ are_squares_on l.text

abbrev pub decreases-loop-rest : goal.decreases-loop-rest
decreases-loop-rest l = length l.rest

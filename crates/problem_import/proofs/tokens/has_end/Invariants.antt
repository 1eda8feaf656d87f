use Rattle.std.proofs.Common.{◌≡◌, length}
use Rattle.problem_import.specs.Numbers.{has_end}
use Rattle.problem_import.proofs.tokens.has_end.Given as goal

abbrev pub invariant-loop-rest : goal.invariant-loop-rest
invariant-loop-rest l = has_end l.mark l.rest ≡ has_end l.mark l.text

abbrev pub decreases-loop-rest : goal.decreases-loop-rest
decreases-loop-rest l = length l.rest

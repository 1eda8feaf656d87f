use Rattle.std.proofs.Common.{◌≡◌, length}
use Rattle.stipulations.specs.declared.asked.Asked.TheVariants.{Nothing}
use Rattle.problem_import.specs.Numbers.{asked_by, asked_together, parts_of}
use Rattle.problem_import.proofs.mending.asked_in.Given as goal

abbrev pub invariant-loop-segment : goal.invariant-loop-segment
invariant-loop-segment l = asked_together asked_by l.asked (parts_of 59 l.rest) ≡ asked_together asked_by Nothing (parts_of 59 l.operations)

abbrev pub decreases-loop-segment : goal.decreases-loop-segment
decreases-loop-segment l = length l.rest

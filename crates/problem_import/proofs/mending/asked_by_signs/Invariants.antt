use Rattle.std.proofs.Common.{◌≡◌, length}
use Rattle.stipulations.specs.declared.asked.Asked.TheVariants.{Nothing}
use Rattle.problem_import.specs.Numbers.{asked_by_sign, asked_together, parts_of}
use Rattle.problem_import.proofs.mending.asked_by_signs.Given as goal

abbrev pub invariant-loop-part : goal.invariant-loop-part
invariant-loop-part l = asked_together asked_by_sign l.asked (parts_of 32 l.rest) ≡ asked_together asked_by_sign Nothing (parts_of 32
    l.operands)

abbrev pub decreases-loop-part : goal.decreases-loop-part
decreases-loop-part l = length l.rest

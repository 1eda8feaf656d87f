use Rattle.std.proofs.Common.{◌≡◌, length}
use Rattle.stipulations.specs.Parts.{parts_of}
use Rattle.stipulations.specs.Stipulations.{asked_by_part, asked_before_parts, asked_beside}
use Rattle.stipulations.proofs.stipulations.moves_asked.Given as goal

abbrev pub invariant-loop-rest : goal.invariant-loop-rest
invariant-loop-rest l = asked_beside asked_by_part l.asked (parts_of l.rest) ≡ asked_beside asked_by_part (asked_before_parts l.text)
    (parts_of l.text)

abbrev pub decreases-loop-rest : goal.decreases-loop-rest
decreases-loop-rest l = length l.rest

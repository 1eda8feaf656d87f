use Rattle.std.proofs.Common.{◌∙◌, ap}
use Rattle.stipulations.specs.Stipulations.{both}
use Rattle.problem_import.specs.Numbers.{asked_by_sign}
use Rattle.problem_import.proofs.Imports.{where_none}
use Rattle.problem_import.proofs.SaidNumbers.{asked_done, asked_next, no_sign}
use Rattle.problem_import.proofs.mending.asked_by_signs.Goals as goal

pub loop-part-preserved : goal.loop-part-preserved
loop-part-preserved c =
    asked_next asked_by_sign no_sign 32 c.loop-part.rest.now c.in-Some.part.text.now c.in-Some.part.rest.now c.in-Some.part.is_ended
    c.loop-part.asked c.and-asked.result c.in-Some.ensures.cut c.in-Some.ensures.last
    (c.and-asked.ensures ∙ ap (both c.loop-part.asked) c.asked_by_sign.ensures) ∙ c.loop-part.invariant

pub returns : goal.returns
returns c = asked_done asked_by_sign no_sign 32 c.loop-part.rest.now c.loop-part.asked (where_none _ c.part_at.result c.in_default.not-Some
    c.part_at.ensures.none) ∙ c.loop-part.invariant

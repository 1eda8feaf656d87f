use Rattle.std.proofs.Common.{◌∙◌, ap}
use Rattle.stipulations.specs.Stipulations.{both}
use Rattle.problem_import.specs.Numbers.{asked_by_id}
use Rattle.problem_import.proofs.Imports.{where_none}
use Rattle.problem_import.proofs.SaidNumbers.{asked_done, asked_next, nothing_by_id}
use Rattle.problem_import.proofs.mending.asked_by_ids.Goals as goal

pub loop-segment-preserved : goal.loop-segment-preserved
loop-segment-preserved c =
    asked_next asked_by_id nothing_by_id 59 c.loop-segment.rest.now c.in-Some.segment.text.now c.in-Some.segment.rest.now c.in-Some.segment.is_ended
    c.loop-segment.asked c.and-asked.result c.in-Some.ensures.cut c.in-Some.ensures.last
    (c.and-asked.ensures ∙ ap (both c.loop-segment.asked) c.asked_by_id.ensures) ∙ c.loop-segment.invariant

pub returns : goal.returns
returns c = asked_done asked_by_id nothing_by_id 59 c.loop-segment.rest.now c.loop-segment.asked (where_none _ c.part_at.result c.in_default.not-Some
    c.part_at.ensures.none) ∙ c.loop-segment.invariant

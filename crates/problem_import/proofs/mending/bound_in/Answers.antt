use Rattle.std.proofs.Common.{◌∙◌, sym}
use Rattle.problem_import.proofs.Imports.{where_none}
use Rattle.problem_import.proofs.SaidNumbers.{bound_done, bound_here, bound_next}
use Rattle.problem_import.proofs.mending.bound_in.Goals as goal

pub loop-segment-preserved : goal.loop-segment-preserved
loop-segment-preserved c =
    bound_next 59 c.loop-segment.rest.now c.in-Some.segment.text.now c.in-Some.segment.rest.now c.in-Some.segment.is_ended
    c.in-Some.ensures.cut c.in-Some.ensures.last (sym c.is_bound_segment.ensures ∙ c.if-is_bound_segment.false) ∙ c.loop-segment.invariant

pub returns-then-is_bound_segment : goal.returns-then-is_bound_segment
returns-then-is_bound_segment c =
    bound_here 59 c.loop-segment.rest.now c.in-Some.segment.text.now _ c.bound_of.result c.in-Some.ensures.cut
    (sym c.is_bound_segment.ensures ∙ c.if-is_bound_segment.true) c.bound_of.ensures ∙ c.loop-segment.invariant

pub returns : goal.returns
returns c = bound_done 59 c.loop-segment.rest.now (where_none _ c.part_at.result c.in_default.not-Some c.part_at.ensures.none) ∙
    c.loop-segment.invariant

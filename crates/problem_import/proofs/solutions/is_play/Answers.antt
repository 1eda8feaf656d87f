use Rattle.std.proofs.Common.{◌∙◌, sym}
use Rattle.problem_import.proofs.Imports.{where_none}
use Rattle.problem_import.proofs.PlayedLines.{play_done, play_here, play_next}
use Rattle.problem_import.proofs.solutions.is_play.Goals as goal

pub loop-part-preserved : goal.loop-part-preserved
loop-part-preserved c =
    play_next c.loop-part.rest.now c.in-Some.part.text.now c.in-Some.part.rest.now c.in-Some.part.is_ended c.in-Some.ensures.cut
    c.in-Some.ensures.last (sym c.is_later.ensures ∙ c.if-is_later.false) ∙ c.loop-part.invariant

pub returns-then-is_later : goal.returns-then-is_later
returns-then-is_later c =
    play_here c.loop-part.rest.now c.in-Some.part.text.now _ c.in-Some.ensures.cut (sym c.is_later.ensures ∙ c.if-is_later.true)
    ∙ c.loop-part.invariant

pub returns : goal.returns
returns c =
    play_done c.loop-part.rest.now (where_none _ c.part_at.result c.in_default.not-Some c.part_at.ensures.none) ∙ c.loop-part.invariant

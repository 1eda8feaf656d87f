use Rattle.std.proofs.Common.{◌∙◌, sym}
use Rattle.problem_import.proofs.TextParts.{cut_if, parts_none, shorter_if}
use Rattle.problem_import.proofs.tokens.part_at.Goals as goal

pub returns-then-is_empty-clause-none : goal.returns-then-is_empty-clause-none
returns-then-is_empty-clause-none c = parts_none c.args.sign c.args.text.now (sym c.is_empty.ensures ∙ c.if-is_empty.true)

pub returns-clause-cut : goal.returns-clause-cut
returns-clause-cut c =
    cut_if c.args.sign c.args.text.now c.first_part.result.text.now c.first_part.result.rest.now c.first_part.result.is_ended
    c.first_part.ensures.ended c.first_part.ensures.last

pub returns-clause-shorter : goal.returns-clause-shorter
returns-clause-shorter c =
    shorter_if c.args.text.now c.first_part.result.rest.now c.first_part.result.is_ended (sym c.is_empty.ensures ∙ c.if-is_empty.false)
    c.first_part.ensures.shorter c.first_part.ensures.none

use Rattle.std.proofs.Common.{◌∙◌, sym}
use Rattle.stipulations.proofs.Squeezed.{spaced_none, spaced_some}
use Rattle.stipulations.proofs.parts.space_before.Goals as goal

pub returns-then-is_empty-clause-none : goal.returns-then-is_empty-clause-none
returns-then-is_empty-clause-none c =
    spaced_none c.args.text.now c.trimmed-behind.result.now c.trimmed-behind.ensures (sym c.is_empty.ensures ∙ c.if-is_empty.true)

pub returns-else-is_empty-clause-some : goal.returns-else-is_empty-clause-some
returns-else-is_empty-clause-some c =
    spaced_some c.args.text.now c.trimmed-behind.result.now c.trimmed-behind.ensures (sym c.is_empty.ensures ∙ c.if-is_empty.false)

use Rattle.std.proofs.Common.{◌∙◌, sym}
use Rattle.problem_import.proofs.ClearClaims.{clear, no_claims, unclear}
use Rattle.problem_import.proofs.line_kinds.have_clear_claims.Goals as goal

pub returns-in-Ok : goal.returns-in-Ok
returns-in-Ok c = clear c.args.position.now c.args.line.now c.as_slice-words.result.now (c.as_slice-words.ensures.value ∙ c.in_ok-text.ensures) c.in-Ok.ensures.clear

pub returns : goal.returns
returns c = unclear c.args.position.now c.args.line.now c.as_slice-words.result.now c.in-Err.field-0 (c.as_slice-words.ensures.value ∙ c.in_ok-text.ensures)
    c.in-Err.ensures.refused

pub returns-then-is_empty : goal.returns-then-is_empty
returns-then-is_empty c = no_claims c.args.position.now c.args.line.now c.as_slice-words.result.now (c.as_slice-words.ensures.value ∙ c.in_ok-text.ensures)
    (sym c.is_empty.ensures ∙ c.if-is_empty.true)

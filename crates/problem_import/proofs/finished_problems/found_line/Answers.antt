use Rattle.std.proofs.Common.{subst}
use Rattle.problem_import.proofs.OwnFindings.{own_of_line}
use Rattle.problem_import.proofs.KnownNumbers.{asked_of_line}
use Rattle.problem_import.specs.inside.Findings.{IsAsked}
use Rattle.problem_import.proofs.Sources.{found_line}
use Rattle.problem_import.proofs.finished_problems.found_line.Goals as goal

pub returns-in-Ok-clause-own : goal.returns-in-Ok-clause-own
returns-in-Ok-clause-own c = λ whole says is. (
  own_of_line _ whole c.args.line.now.text.now _ says c.in_ok-mended.ensures.fields,
  asked_of_line _ whole c.args.line.now.text.now c.in_ok-mended.mended.said c.in-Ok.number says c.in_ok-mended.ensures.said
      (c.in-Ok.ensures whole is),
)

pub returns-in-Ok-clause-from : goal.returns-in-Ok-clause-from
returns-in-Ok-clause-from c = λ letters lines whole among says is given.
    found_line letters given lines whole c.args.line.now.text.now c.in_ok-mended.mended.text.items c.in-Ok.number among says c.in_ok-mended.ensures.fields
    (subst (λ asks. IsAsked whole asks c.in-Ok.number) c.in_ok-mended.ensures.said (c.in-Ok.ensures whole is))

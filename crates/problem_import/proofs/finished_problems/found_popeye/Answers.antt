use Rattle.problem_import.proofs.OwnFindings.{own_of_popeye}
use Rattle.problem_import.proofs.KnownNumbers.{asked_of_popeye}
use Rattle.problem_import.proofs.Sources.{from_popeyes}
use Rattle.problem_import.proofs.finished_problems.found_popeye.Goals as goal

pub returns-in-Ok-clause-own : goal.returns-in-Ok-clause-own
returns-in-Ok-clause-own c = λ line. (
  own_of_popeye c.of-changes.result.form line c.in-Ok.text.items c.of-changes.ensures,
  asked_of_popeye c.of-changes.result.form line _ c.of-changes.ensures,
)

pub returns-in-Ok-clause-from : goal.returns-in-Ok-clause-from
returns-in-Ok-clause-from c = λ letters lines own up (words, are, read).
    let (sets, asks) = (rw c.in-Ok.is at c.in_ok-made.ensures) words read in
    (λ given. from_popeyes letters given lines own words c.in-Ok.text.items _ up are sets asks)

use Rattle.std.proofs.Common.{sym}
use Rattle.problem_import.specs.inside.KnownSources.{IsEndedFrom}
use Rattle.std.proofs.Common.{subst}
use Rattle.problem_import.proofs.reading.Reading.finish.Goals as goal

pub returns-clause-own : goal.returns-clause-own
returns-clause-own c = λ line before. c.in_ok-push_finding.ensures.own line before ((rw c.in-Some.is at c.in_ok-finding.ensures.own) line)

pub returns-clause-from : goal.returns-clause-from
returns-clause-from c = λ letters lines own up of before.
    c.in_ok-push_finding.ensures.from letters lines before
    ((rw c.in-Some.is at c.in_ok-finding.ensures.from) letters lines own up (subst (IsEndedFrom letters own) (sym c.replace-open.ensures.value) of))

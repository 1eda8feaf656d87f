use Rattle.std.proofs.Common.{subst}
use Rattle.problem_import.specs.inside.KnownSources.{IsEndedFrom}
use Rattle.problem_import.proofs.finished_problems.found_open.Goals as goal

pub returns-in_ok-found-in-Game-clause-from : goal.returns-in_ok-found-in-Game-clause-from
returns-in_ok-found-in-Game-clause-from c = λ letters lines own up of.
    c.in_ok-found-in-Game.ensures.from letters lines own up (subst (IsEndedFrom letters own) c.in-Game.is of)

pub returns-in_ok-found-in-Popeye-clause-from : goal.returns-in_ok-found-in-Popeye-clause-from
returns-in_ok-found-in-Popeye-clause-from c = λ letters lines own up of.
    c.in_ok-found-in-Popeye.ensures.from letters lines own up (subst (IsEndedFrom letters own) c.in-Popeye.is of)

pub returns-in_ok-found-in-Olive-clause-from : goal.returns-in_ok-found-in-Olive-clause-from
returns-in_ok-found-in-Olive-clause-from c = λ letters lines own up of.
    c.in_ok-found-in-Olive.ensures.from letters lines own up (subst (IsEndedFrom letters own) c.in-Olive.is of)

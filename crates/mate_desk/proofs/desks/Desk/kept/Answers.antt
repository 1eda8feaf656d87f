use Rattle.std.proofs.Common.{subst}
use Rattle.mate_desk.specs.Content.{Content}
use Rattle.mate_desk.specs.Laws.{AreKept}
use Rattle.mate_desk.proofs.desks.Desk.kept.Goals as goal

pub returns-clause-kept : goal.returns-clause-kept
returns-clause-kept c = subst (λ (d : Content). AreKept d.next d.queues) c.self.view_is c.self.invariant

use Rattle.std.proofs.Common.{◌∙◌, ap, arith, count_by, rules}
use Rattle.mate_desk.specs.Content.{QueueValue, waits}
use Rattle.mate_desk.proofs.Counting.{ones_waiting}
use Rattle.mate_desk.proofs.queues.Queue.waiting.Goals as goal

pub returns-clause-waiting : goal.returns-clause-waiting
returns-clause-waiting c = ones_waiting c.self.inside.waiting c.self.inside.entries.items (search rules)
    (omega (arith, c.self.invariant.1, c.self.invariant.2)) c.self.invariant.5
    ∙ ap (λ (q : QueueValue). count_by waits q.pending) c.self.view_is

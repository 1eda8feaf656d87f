use Rattle.room_ends.specs.Windows.{collected, deliveries_known}
use Rattle.room_ends.proofs.FirstTaken.{first_taken, left_known}
use Rattle.room_ends.proofs.windows.Window.collect_seen.Goals as goal

pub returns-clause-collected : goal.returns-clause-collected
returns-clause-collected c d p = first_taken (collected c.args.self.now) _
    (deliveries_known c.args.self.now) _ c.pop_known.result d p c.pop_known.ensures.received.1 c.pop_known.ensures.received.0

pub returns-clause-known : goal.returns-clause-known
returns-clause-known c d p = left_known (deliveries_known c.args.self.now) _ c.pop_known.result d p c.pop_known.ensures.received.1

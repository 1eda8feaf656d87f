use Rattle.std.proofs.Common.{rules}
use Rattle.room_ends.proofs.DequeSteps.{puts_stop}
use Rattle.room_ends.proofs.order_producer.OrderProducer.stop.Goals as goal

pub push_as-requires-clause-pushes : goal.push_as-requires-clause-pushes
push_as-requires-clause-pushes c = puts_stop _ _ (search rules) (search rules)

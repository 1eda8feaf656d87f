use Rattle.std.proofs.Common.{rules}
use Rattle.room_ends.proofs.DequeSteps.{puts_job}
use Rattle.room_ends.proofs.order_producer.OrderProducer.order.Goals as goal

pub push_as-requires-clause-pushes : goal.push_as-requires-clause-pushes
push_as-requires-clause-pushes c = puts_job _ _ _ (search rules) (search rules)

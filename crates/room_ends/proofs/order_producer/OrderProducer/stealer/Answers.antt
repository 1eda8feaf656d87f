use Rattle.std.proofs.Common.{rules}
use Rattle.room_ends.proofs.DequeSteps.{hands}
use Rattle.room_ends.proofs.order_producer.OrderProducer.stealer.Goals as goal

pub another-pass-requires : goal.another-pass-requires
another-pass-requires c = hands _ _ (search rules)

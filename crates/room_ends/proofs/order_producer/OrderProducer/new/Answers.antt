use Rattle.room_ends.proofs.DequeSteps.{begins}
use Rattle.room_ends.proofs.order_producer.OrderProducer.new.Goals as goal

pub fifo_as-requires : goal.fifo_as-requires
fifo_as-requires c = begins

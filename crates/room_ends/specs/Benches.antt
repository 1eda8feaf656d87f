-- What a contract sees of a bench, and of the keeper's end of its back ring, a receiver (own to this project).
use Rattle.std.specs.Prelude.{◌≡◌, ℕ, List}
use Rattle.rtrb.specs.Ring.{sent, known_free, producer_capacity, received, known_items, IsPair, SameProducer, SameConsumer}
use Rattle.room_ends.specs.Orders.{stealer_got, IsStealerOf, SameStealer}
use Rattle.room_ends.specs.declared.deque_rule.Order.{Order}
use Rattle.room_ends.specs.declared.letters.Back.{Back}
use Rattle.room_ends.specs.declared.order_producer.OrderProducer.{OrderProducer}
use Rattle.room_ends.specs.declared.benches.Bench.{Bench}
use Rattle.room_ends.specs.declared.back_receiver.BackReceiver.{BackReceiver}

-- the orders that the bench got, oldest first
abbrev pub got : Bench → List Order
got bench = stealer_got bench.stealer

-- what the bench gave back, oldest first
abbrev pub given : Bench → List Back
given bench = sent bench.back

-- how many places of its back ring the bench knows to be free
abbrev pub places_known : Bench → ℕ
places_known bench = known_free bench.back

-- how many places its back ring has
abbrev pub bench_ring : Bench → ℕ
bench_ring bench = producer_capacity bench.back

-- what the keeper heard, oldest first
abbrev pub heard : BackReceiver → List Back
heard receiver = received receiver.back

-- what it knows to lie in the back ring, oldest first
abbrev pub back_known : BackReceiver → List Back
back_known receiver = known_items receiver.back

-- how many places that ring has
abbrev pub receiver_ring : BackReceiver → ℕ
receiver_ring receiver = receiver.ring

-- the two ends of one back ring
abbrev pub AreEnds : Bench → BackReceiver → Type 0
AreEnds bench receiver = IsPair bench.back receiver.back

-- the orders that the bench takes are those that the producer puts out: both are at one deque
abbrev pub TakesFrom : OrderProducer → Bench → Type 0
TakesFrom producer bench = IsStealerOf producer bench.stealer

-- the bench is still at the same deque, with the same back ring
abbrev pub SameBench : Bench → Bench → Type 0
SameBench old new = SameStealer old.stealer new.stealer × SameProducer old.back new.back

-- the keeper still hears the same back ring
abbrev pub SameReceiver : BackReceiver → BackReceiver → Type 0
SameReceiver old new = SameConsumer old.back new.back × (receiver_ring new ≡ receiver_ring old)

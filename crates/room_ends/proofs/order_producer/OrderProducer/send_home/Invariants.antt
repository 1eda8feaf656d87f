use Rattle.std.proofs.Common.{◌-◌, ◌≡◌, ◌++◌, ℕ, replicate}
use Rattle.room_ends.specs.Orders.{orders, StillPuts}
use Rattle.room_ends.specs.declared.deque_rule.Order.TheVariants.{Stop}
use Rattle.room_ends.proofs.order_producer.OrderProducer.send_home.Given as goal

abbrev pub invariant-loop-self : goal.invariant-loop-self
invariant-loop-self l = record {
  so_far : (n : ℕ) × (orders l.self ≡ orders l.initial.self ++ replicate n Stop);
  stays : StillPuts l.initial.self l.self;
}

abbrev pub decreases-loop-self : goal.decreases-loop-self
decreases-loop-self l = l.self.stealers - l.self.sent_home

use Rattle.std.proofs.Common.{rules, ap}
use Rattle.room_ends.specs.declared.deque_rule.View.{View}
use Rattle.room_ends.proofs.DequeSteps.{takes}
use Rattle.room_ends.proofs.order_stealer.OrderStealer.take.Goals as goal

pub steal_as-requires-clause-takes : goal.steal_as-requires-clause-takes
steal_as-requires-clause-takes c = takes _ _ (ap (λ (v : View). v.keeps) c.args.self.now.knows) (search rules)

-- What a contract sees of the two ends of the deque of orders: the keeper's, a producer, and a bench's, a stealer (own to this project).
use Rattle.std.specs.Prelude.{◌≡◌, ◌<◌, ◌≤◌, ℕ, List, [], ◌∷◌, length}
use Rattle.crossbeam_deque.specs.Handles.{view, worker_view, worker_deque, worker_capacity, stealer_deque}
use Rattle.room_ends.specs.declared.deque_rule.Order.{Order}
use Rattle.room_ends.specs.declared.deque_rule.Order.TheVariants.{Solve, Stop}
use Rattle.room_ends.specs.declared.order_producer.OrderProducer.{OrderProducer}
use Rattle.room_ends.specs.declared.order_stealer.OrderStealer.{OrderStealer}
use Rattle.room_ends.specs.declared.order_stealer.Taken.{Taken}
use Rattle.room_ends.specs.declared.order_stealer.Taken.TheVariants.{Job as TookJob, Stop as TookStop, Nothing}

-- the orders that were put out, oldest first
abbrev pub orders : OrderProducer → List Order
orders producer = (worker_view producer.deque).orders

-- how many passes were handed out, each with its stealer
abbrev pub passes : OrderProducer → ℕ
passes producer = (worker_view producer.deque).passes

-- how many places the deque has
abbrev pub places : OrderProducer → ℕ
places producer = worker_capacity producer.deque

-- the orders that a stealer took, oldest first
abbrev pub stealer_got : OrderStealer → List Order
stealer_got stealer = (view stealer.pass).got

-- the order that was taken, if one was
abbrev pub taken_order : Taken → List Order
taken_order (TookJob job) = Solve job ∷ []
taken_order TookStop = Stop ∷ []
taken_order Nothing = []

-- the stealer is at the producer's deque
abbrev pub IsStealerOf : OrderProducer → OrderStealer → Type 0
IsStealerOf producer stealer = stealer_deque stealer.stealer ≡ worker_deque producer.deque

-- the producer still has the same deque
abbrev pub SameDeque : OrderProducer → OrderProducer → Type 0
SameDeque old new = worker_deque new.deque ≡ worker_deque old.deque

-- It is so still, the deque has no fewer places, and no pass was handed out.
pub record StillPuts (a b : OrderProducer) : Type 0 where
  pub deque : SameDeque a b
  pub places : places a ≤ places b
  pub passes : passes b ≡ passes a

-- No order was put out. So it is not the first, and as many as the deque has places were before it.
pub record PutNone (a b : OrderProducer) : Type 0 where
  pub not_the_first : 0 < length (orders a)
  pub full : places a ≤ length (orders a)
  pub orders : orders b ≡ orders a

-- the stealer is still at the same deque
abbrev pub SameStealer : OrderStealer → OrderStealer → Type 0
SameStealer old new = stealer_deque new.stealer ≡ stealer_deque old.stealer

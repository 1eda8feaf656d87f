use Rattle.std.proofs.Common.{◌≡◌, ◌≤◌, vec_len, vec_capacity, [], map, replicate}
use Rattle.room_ends.specs.Orders.{orders, passes, SameDeque}
use Rattle.room_ends.specs.Benches.{heard, receiver_ring}
use Rattle.room_ends.specs.Opening.{AreIdle}
use Rattle.room_ends.proofs.back_rings.open_benches.Given as goal

abbrev pub invariant-loop : goal.invariant-loop
invariant-loop l = record {
  count : vec_len l.ends ≡ l.counter;
  count_receivers : vec_len l.receivers ≡ l.counter;
  places : l.benches ≤ vec_capacity l.ends;
  places_receivers : l.benches ≤ vec_capacity l.receivers;
  idle : AreIdle l.producer l.ring l.ends.items l.receivers.items;
  heard : map heard l.receivers.items ≡ replicate l.counter [];
  rings : map receiver_ring l.receivers.items ≡ replicate l.counter l.ring;
  passes : passes l.producer ≡ l.counter;
  orders : orders l.producer ≡ orders l.fn.producer;
  deque : SameDeque l.fn.producer l.producer;
}

use Rattle.std.proofs.Common.{◌≡◌, ◌≤◌, ◌+◌, false}
use Rattle.room_ends.specs.Orders.{places}
use Rattle.desk_room.specs.Turns.{waiting}
use Rattle.desk_room.specs.Keepers.{lists}
use Rattle.desk_room.specs.Passes.{Ordering}
use Rattle.desk_room.specs.inside.Steps.{AtProducer}
use Rattle.desk_room.proofs.keepers.Keeper.order_all.Given as goal

abbrev pub invariant-loop-ordered : goal.invariant-loop-ordered
invariant-loop-ordered l = record {
  ordered : Ordering (lists l.fn.self) (lists l.self) l.ordered;
  fewer : waiting l.self.desk + l.ordered ≡ l.waiting;
  places : places l.fn.self.producer ≤ places l.self.producer;
  ends : AtProducer l.fn.self l.self;
  before : l.fn.self.is_home ≡ false;
  home : l.self.is_home ≡ false;
}

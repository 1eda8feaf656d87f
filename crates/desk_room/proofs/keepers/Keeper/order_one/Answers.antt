use Rattle.std.proofs.Common.{arith, sym, refl, ◌∙◌, map, true≢false}
use Rattle.room_ends.specs.Orders.{orders}
use Rattle.room_ends.specs.Benches.{heard}
use Rattle.room_ends.specs.WindowRings.{letters_taken, deliveries_put}
use Rattle.desk_room.proofs.Stepping.{ordered_tried, ordered_owed, ordered_marked, ordered_stops, rooms_ordered, queues_by_rooms, rooms_still}
use Rattle.desk_room.proofs.Staying.{at_producer}
use Rattle.desk_room.proofs.keepers.Keeper.order_one.Goals as goal

pub invariant_of-self-clause-windows : goal.invariant_of-self-clause-windows
invariant_of-self-clause-windows c =
    let k = c.args.self.now in
    omega (
      arith,
      k.windows,
      queues_by_rooms k.desk c.order_job.new.desk (rooms_ordered c.order_job.result (orders k.producer)
          (orders c.order_job.new.producer) k.desk c.order_job.new.desk c.order_job.ensures.tried),
    )

pub invariant_of-self-clause-rooms : goal.invariant_of-self-clause-rooms
invariant_of-self-clause-rooms c =
    let k = c.args.self.now in
    rooms_still k.desk c.order_job.new.desk k.ring (rooms_ordered c.order_job.result (orders k.producer)
    (orders c.order_job.new.producer) k.desk c.order_job.new.desk c.order_job.ensures.tried) k.rooms

pub invariant_of-self-clause-kept : goal.invariant_of-self-clause-kept
invariant_of-self-clause-kept c =
    let k = c.args.self.now in
    ordered_owed c.order_job.result (map letters_taken k.lines.items) (map deliveries_put k.lines.items)
    (map heard k.receivers.items) (orders k.producer)
    (orders c.order_job.new.producer) k.desk c.order_job.new.desk c.order_job.ensures.tried k.kept

pub invariant_of-self-clause-marked : goal.invariant_of-self-clause-marked
invariant_of-self-clause-marked c =
    let k = c.args.self.now in
    ordered_marked c.order_job.result (map letters_taken k.lines.items) (map deliveries_put k.lines.items)
    (map heard k.receivers.items) (orders k.producer)
    (orders c.order_job.new.producer) k.desk c.order_job.new.desk c.order_job.ensures.tried k.marked

pub invariant_of-self-clause-working : goal.invariant_of-self-clause-working
invariant_of-self-clause-working c = let k = c.args.self.now in λ h. ordered_stops c.order_job.result (orders k.producer)
    (orders c.order_job.new.producer) k.desk c.order_job.new.desk c.order_job.ensures.tried ∙ k.working h

pub invariant_of-self-clause-sent_home : goal.invariant_of-self-clause-sent_home
invariant_of-self-clause-sent_home c = λ h. absurd (true≢false (sym h ∙ c.requires))

pub returns-clause-tried : goal.returns-clause-tried
returns-clause-tried c =
    let k = c.args.self.now in
    ordered_tried c.order_job.result (map letters_taken k.lines.items) (map deliveries_put k.lines.items)
    (map heard k.receivers.items) (orders k.producer)
    (orders c.order_job.new.producer) k.desk c.order_job.new.desk c.order_job.ensures.tried

pub returns-clause-ends : goal.returns-clause-ends
returns-clause-ends c = at_producer c.args.self.now _ refl refl refl refl c.order_job.ensures.stays.deque

use Rattle.std.proofs.Common.{sym, ap, ◌∙◌, length, map, replicate}
use Rattle.mate_desk.specs.Content.{Content}
use Rattle.room_ends.specs.DequeRule.{stops}
use Rattle.room_ends.specs.WindowRings.{letters_taken, deliveries_put}
use Rattle.desk_room.proofs.Openings.{owed_fresh, marked_fresh, rooms_fresh, queues_fresh}
use Rattle.desk_room.proofs.rooms.open.Goals as goal

pub invariant_of-keeper-clause-windows : goal.invariant_of-keeper-clause-windows
invariant_of-keeper-clause-windows c = ap (λ (d : Content). length d.queues) c.in-Ok.ensures.empty
    ∙ (queues_fresh c.args.windows _ ∙ sym c.in_ok-window_ends.ensures.lines)

pub invariant_of-keeper-clause-line_rings : goal.invariant_of-keeper-clause-line_rings
invariant_of-keeper-clause-line_rings c =
    c.in_ok-window_ends.ensures.rings ∙ ap (λ n. replicate n c.args.ring) (sym c.in_ok-window_ends.ensures.lines)

pub invariant_of-keeper-clause-receiver_rings : goal.invariant_of-keeper-clause-receiver_rings
invariant_of-keeper-clause-receiver_rings c =
    c.in_ok-bench_ends.ensures.rings ∙ ap (λ n. replicate n c.args.ring) (sym c.in_ok-bench_ends.ensures.receivers)

pub invariant_of-keeper-clause-rooms : goal.invariant_of-keeper-clause-rooms
invariant_of-keeper-clause-rooms c = rooms_fresh c.args.windows c.args.ring c.in-Ok.desk.queues (ap (λ (d : Content). d.queues) c.in-Ok.ensures.empty)

pub invariant_of-keeper-clause-kept : goal.invariant_of-keeper-clause-kept
invariant_of-keeper-clause-kept c = owed_fresh c.args.windows c.args.ring (map letters_taken c.in_ok-window_ends.lines.items)
    (map deliveries_put c.in_ok-window_ends.lines.items) c.in-Ok.desk.queues c.in_ok-window_ends.ensures.taken
    c.in_ok-window_ends.ensures.put (ap (λ (d : Content). d.queues) c.in-Ok.ensures.empty)

pub invariant_of-keeper-clause-marked : goal.invariant_of-keeper-clause-marked
invariant_of-keeper-clause-marked c = ∣ marked_fresh c.args.windows c.args.ring
    (map letters_taken c.in_ok-window_ends.lines.items) (map deliveries_put c.in_ok-window_ends.lines.items) c.in-Ok.desk.queues
    c.in_ok-window_ends.ensures.taken c.in_ok-window_ends.ensures.put (ap (λ (d : Content). d.queues) c.in-Ok.ensures.empty) ∣₁

pub invariant_of-keeper-clause-stealers : goal.invariant_of-keeper-clause-stealers
invariant_of-keeper-clause-stealers c = c.in_ok-bench_ends.ensures.passes ∙ sym c.in_ok-bench_ends.ensures.receivers

pub invariant_of-keeper-clause-working : goal.invariant_of-keeper-clause-working
invariant_of-keeper-clause-working c = λ h. ap stops (c.in_ok-bench_ends.ensures.orders ∙ c.in_ok-producer.ensures.orders)

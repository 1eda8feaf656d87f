use Rattle.std.proofs.Common.{arith, refl, sym, ◌∙◌, inl, inr, ⊎_elim, length-set, []}
use Rattle.room_ends.specs.Orders.{orders}
use Rattle.room_ends.specs.WindowRings.{letters_known, deliveries_put, places_free, ring_of}
use Rattle.desk_room.specs.Keepers.{OthersServed}
use Rattle.desk_room.proofs.Places.{at_other, map_same, nil_append}
use Rattle.desk_room.proofs.Ahead.{ahead_looked}
use Rattle.desk_room.proofs.Stepping.{gave_step, gave_owed, gave_marked, rooms_given, queues_by_rooms, rooms_still, rings_set}
use Rattle.desk_room.proofs.Served.{gave_stuck, gave_fewer, gave_other, gave_longer}
use Rattle.desk_room.proofs.Staying.{at_lines}
use Rattle.desk_room.proofs.Fewness.{untouched_set}
use Rattle.desk_room.proofs.keepers.Keeper.give_one.Goals as goal

pub invariant_of-self-clause-windows : goal.invariant_of-self-clause-windows
invariant_of-self-clause-windows c =
    let k = c.args.self.now in
    omega (
      arith,
      k.windows,
      length-set k.lines.items c.args.n c.give_delivery.new.line,
      queues_by_rooms k.desk c.give_delivery.new.desk (rooms_given c.give_delivery.result c.args.n c.index_mut.result.now
          c.give_delivery.new.line k.desk c.give_delivery.new.desk c.give_delivery.ensures.gave),
    )

pub invariant_of-self-clause-few_windows : goal.invariant_of-self-clause-few_windows
invariant_of-self-clause-few_windows c = let k = c.args.self.now in
    omega (arith, k.few_windows, length-set k.lines.items c.args.n c.give_delivery.new.line)

pub invariant_of-self-clause-line_rings : goal.invariant_of-self-clause-line_rings
invariant_of-self-clause-line_rings c = let k = c.args.self.now in rings_set ring_of k.lines.items c.args.n c.index_mut.result.now
    c.give_delivery.new.line k.ring c.requires c.index_mut.ensures.value c.give_delivery.ensures.letters.line.2 k.line_rings

pub invariant_of-self-clause-rooms : goal.invariant_of-self-clause-rooms
invariant_of-self-clause-rooms c =
    let k = c.args.self.now in
    rooms_still k.desk c.give_delivery.new.desk k.ring (rooms_given c.give_delivery.result c.args.n c.index_mut.result.now
    c.give_delivery.new.line k.desk c.give_delivery.new.desk c.give_delivery.ensures.gave) k.rooms

pub invariant_of-self-clause-kept : goal.invariant_of-self-clause-kept
invariant_of-self-clause-kept c =
    let k = c.args.self.now in
    gave_owed c.give_delivery.result k.lines.items c.args.n c.index_mut.result.now c.give_delivery.new.line k.receivers.items
    (orders k.producer) k.desk c.give_delivery.new.desk c.requires c.index_mut.ensures.value
    c.give_delivery.ensures.letters.taken c.give_delivery.ensures.gave k.kept

pub invariant_of-self-clause-marked : goal.invariant_of-self-clause-marked
invariant_of-self-clause-marked c =
    let k = c.args.self.now in
    gave_marked c.give_delivery.result k.lines.items c.args.n c.index_mut.result.now c.give_delivery.new.line k.receivers.items
    (orders k.producer) k.desk c.give_delivery.new.desk c.requires c.index_mut.ensures.value
    c.give_delivery.ensures.letters.taken c.give_delivery.ensures.gave k.marked

pub returns-clause-step : goal.returns-clause-step
returns-clause-step c =
    let k = c.args.self.now in
    gave_step c.give_delivery.result k.lines.items c.args.n c.index_mut.result.now c.give_delivery.new.line k.receivers.items
    (orders k.producer) k.desk c.give_delivery.new.desk c.requires c.index_mut.ensures.value
    c.give_delivery.ensures.letters.taken c.give_delivery.ensures.gave

pub returns-clause-stuck : goal.returns-clause-stuck
returns-clause-stuck c = gave_stuck c.give_delivery.result c.args.self.now.lines.items c.args.n c.index_mut.result.now
    c.give_delivery.new.line c.args.self.now.desk c.give_delivery.new.desk c.requires c.give_delivery.ensures.gave

pub returns-clause-fewer : goal.returns-clause-fewer
returns-clause-fewer c = gave_fewer c.give_delivery.result c.args.n c.index_mut.result.now c.give_delivery.new.line
    c.args.self.now.desk c.give_delivery.new.desk c.give_delivery.ensures.gave

pub returns-clause-others : goal.returns-clause-others
unfolding OthersServed
returns-clause-others c =
    let k = c.args.self.now in
    λ i h. ⊎_elim (λ r. inl (at_other places_free k.lines.items c.args.n i c.give_delivery.new.line 0 h ∙ r))
    (λ r. inr (gave_other c.give_delivery.result c.args.n i c.index_mut.result.now c.give_delivery.new.line k.desk
    c.give_delivery.new.desk c.give_delivery.ensures.gave h ∙ r))

pub returns-clause-known : goal.returns-clause-known
returns-clause-known c = let k = c.args.self.now in map_same letters_known k.lines.items c.args.n c.index_mut.result.now
    c.give_delivery.new.line c.requires c.index_mut.ensures.value c.give_delivery.ensures.letters.known

pub returns-clause-ends : goal.returns-clause-ends
returns-clause-ends c =
    let e = c.give_delivery.ensures.letters in
    at_lines c.args.self.now _ c.args.n c.index_mut.result.now c.give_delivery.new.line c.requires c.index_mut.ensures.value e.line
    (ahead_looked _ _ _ _ ([], nil_append _ ∙ sym e.known) e.taken) refl refl refl refl refl

pub returns-clause-longer : goal.returns-clause-longer
returns-clause-longer c =
    gave_longer c.give_delivery.result c.args.self.now.lines.items c.args.n c.index_mut.result.now c.give_delivery.new.line
    c.args.self.now.desk c.give_delivery.new.desk c.requires c.index_mut.ensures.value c.give_delivery.ensures.gave

pub returns-clause-untouched : goal.returns-clause-untouched
returns-clause-untouched c = untouched_set deliveries_put c.args.self.now.lines.items c.args.n c.give_delivery.new.line

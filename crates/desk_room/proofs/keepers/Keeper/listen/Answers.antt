use Rattle.std.proofs.Common.{arith, sym, ap, ◌∙◌, refl, length, length-set, []}
use Rattle.room_ends.specs.Orders.{orders}
use Rattle.room_ends.specs.Benches.{back_known, receiver_ring}
use Rattle.desk_room.proofs.Places.{at_same}
use Rattle.desk_room.proofs.Stepping.{receivers_same, rings_set, ring_at}
use Rattle.desk_room.proofs.Ahead.{ahead_looked}
use Rattle.desk_room.proofs.Staying.{at_receivers}
use Rattle.desk_room.proofs.Fewness.{untouched_set}
use Rattle.desk_room.proofs.keepers.Keeper.listen.Goals as goal

pub invariant_of-self-clause-few_benches : goal.invariant_of-self-clause-few_benches
invariant_of-self-clause-few_benches c = let k = c.args.self.now in
    omega (arith, k.few_benches, length-set k.receivers.items c.args.b c.listen.new.self)

pub invariant_of-self-clause-receiver_rings : goal.invariant_of-self-clause-receiver_rings
invariant_of-self-clause-receiver_rings c = let k = c.args.self.now in
    rings_set receiver_ring k.receivers.items c.args.b c.index_mut.result.now c.listen.new.self k.ring c.requires
    c.index_mut.ensures.value c.listen.ensures.ring.1 k.receiver_rings

pub returns-clause-same : goal.returns-clause-same
returns-clause-same c = let k = c.args.self.now in receivers_same k.lines.items k.receivers.items c.args.b c.index_mut.result.now
    c.listen.new.self (orders k.producer) k.desk c.requires c.index_mut.ensures.value c.listen.ensures.heard

pub returns-clause-known : goal.returns-clause-known
returns-clause-known c = omega (
  arith,
  ap length
      (at_same back_known c.args.self.now.receivers.items c.args.b c.listen.new.self [] c.requires),
  c.listen.ensures.known,
)

pub returns-clause-few : goal.returns-clause-few
returns-clause-few c =
    let k = c.args.self.now in
    omega (
      arith,
      c.listen.ensures.few,
      c.listen.ensures.ring.1,
      ring_at receiver_ring k.receivers.items c.args.b
          c.index_mut.result.now k.ring c.requires c.index_mut.ensures.value k.receiver_rings,
    )

pub invariant_of-self-clause-stealers : goal.invariant_of-self-clause-stealers
invariant_of-self-clause-stealers c = let k = c.args.self.now in k.stealers ∙ sym (length-set k.receivers.items c.args.b c.listen.new.self)

pub invariant_of-self-clause-a_bench : goal.invariant_of-self-clause-a_bench
invariant_of-self-clause-a_bench c = let k = c.args.self.now in omega (arith, k.a_bench, length-set k.receivers.items c.args.b c.listen.new.self)

pub returns-clause-ends : goal.returns-clause-ends
returns-clause-ends c = at_receivers c.args.self.now _ c.args.b c.index_mut.result.now c.listen.new.self c.requires c.index_mut.ensures.value
    (ahead_looked _ _ _ _ c.listen.ensures.more c.listen.ensures.heard) refl refl refl refl refl

pub returns-clause-untouched : goal.returns-clause-untouched
returns-clause-untouched c = untouched_set back_known c.args.self.now.receivers.items c.args.b c.listen.new.self

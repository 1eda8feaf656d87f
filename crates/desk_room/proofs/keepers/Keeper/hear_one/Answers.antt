use Rattle.std.proofs.Common.{arith, sym, ap, ◌∙◌, refl, length, length-set, []}
use Rattle.room_ends.specs.Orders.{orders}
use Rattle.room_ends.specs.Benches.{heard, back_known, receiver_ring}
use Rattle.desk_room.proofs.Places.{at_same, at_old}
use Rattle.desk_room.proofs.Stepping.{heard_step, heard_owed, heard_marked, heard_rooms, queues_by_rooms, rooms_still, rings_set}
use Rattle.desk_room.proofs.Ahead.{ahead_taken}
use Rattle.desk_room.proofs.Staying.{at_receivers}
use Rattle.desk_room.proofs.Fewness.{one_longer, untouched_set}
use Rattle.desk_room.proofs.keepers.Keeper.hear_one.Goals as goal

pub invariant_of-self-clause-windows : goal.invariant_of-self-clause-windows
invariant_of-self-clause-windows c =
    let k = c.args.self.now in
    omega (
      arith,
      k.windows,
      queues_by_rooms k.desk c.hear_back.new.desk (heard_rooms c.index_mut.result.now
          c.hear_back.new.receiver k.desk c.hear_back.new.desk c.hear_back.result c.hear_back.ensures.heard),
    )

pub invariant_of-self-clause-few_benches : goal.invariant_of-self-clause-few_benches
invariant_of-self-clause-few_benches c = let k = c.args.self.now in
    omega (arith, k.few_benches, length-set k.receivers.items c.args.b c.hear_back.new.receiver)

pub invariant_of-self-clause-receiver_rings : goal.invariant_of-self-clause-receiver_rings
invariant_of-self-clause-receiver_rings c = let k = c.args.self.now in
    rings_set receiver_ring k.receivers.items c.args.b c.index_mut.result.now c.hear_back.new.receiver k.ring c.requires.bench
    c.index_mut.ensures.value c.hear_back.ensures.receiver.1 k.receiver_rings

pub invariant_of-self-clause-rooms : goal.invariant_of-self-clause-rooms
invariant_of-self-clause-rooms c =
    let k = c.args.self.now in
    rooms_still k.desk c.hear_back.new.desk k.ring (heard_rooms c.index_mut.result.now c.hear_back.new.receiver k.desk
    c.hear_back.new.desk c.hear_back.result c.hear_back.ensures.heard) k.rooms

pub invariant_of-self-clause-kept : goal.invariant_of-self-clause-kept
invariant_of-self-clause-kept c =
    let k = c.args.self.now in
    heard_owed k.lines.items k.receivers.items c.args.b c.index_mut.result.now c.hear_back.new.receiver (orders k.producer) k.desk
    c.hear_back.new.desk c.hear_back.result c.requires.bench c.index_mut.ensures.value c.hear_back.ensures.heard k.kept

pub invariant_of-self-clause-marked : goal.invariant_of-self-clause-marked
invariant_of-self-clause-marked c =
    let k = c.args.self.now in
    heard_marked k.lines.items k.receivers.items c.args.b c.index_mut.result.now c.hear_back.new.receiver
    (orders k.producer) k.desk c.hear_back.new.desk c.hear_back.result c.requires.bench
    c.index_mut.ensures.value c.hear_back.ensures.heard k.marked

pub returns-clause-step : goal.returns-clause-step
returns-clause-step c =
    let k = c.args.self.now in
    heard_step k.lines.items k.receivers.items c.args.b c.index_mut.result.now c.hear_back.new.receiver (orders k.producer) k.desk
    c.hear_back.new.desk c.hear_back.result c.requires.bench c.index_mut.ensures.value c.hear_back.ensures.heard

pub returns-clause-known : goal.returns-clause-known
returns-clause-known c =
    let k = c.args.self.now in
    let o = at_old back_known k.receivers.items c.args.b c.index_mut.result.now [] c.requires.bench c.index_mut.ensures.value in
    let p = at_same back_known k.receivers.items c.args.b c.hear_back.new.receiver [] c.requires.bench in
    omega (arith, ap length o, ap length p, ap length c.hear_back.ensures.heard.known)

pub invariant_of-self-clause-stealers : goal.invariant_of-self-clause-stealers
invariant_of-self-clause-stealers c = let k = c.args.self.now in k.stealers ∙ sym (length-set k.receivers.items c.args.b c.hear_back.new.receiver)

pub invariant_of-self-clause-a_bench : goal.invariant_of-self-clause-a_bench
invariant_of-self-clause-a_bench c = let k = c.args.self.now in
    omega (arith, k.a_bench, length-set k.receivers.items c.args.b c.hear_back.new.receiver)

pub returns-clause-longer : goal.returns-clause-longer
returns-clause-longer c =
    one_longer heard c.args.self.now.receivers.items c.args.b c.index_mut.result.now c.hear_back.new.receiver
    c.hear_back.ensures.heard.back c.requires.bench c.index_mut.ensures.value c.hear_back.ensures.heard.heard

pub returns-clause-others : goal.returns-clause-others
returns-clause-others c = untouched_set heard c.args.self.now.receivers.items c.args.b c.hear_back.new.receiver

pub returns-clause-ends : goal.returns-clause-ends
returns-clause-ends c =
    let t = c.hear_back.ensures.heard in
    at_receivers c.args.self.now _ c.args.b c.index_mut.result.now c.hear_back.new.receiver c.requires.bench c.index_mut.ensures.value
    (ahead_taken _ _ _ _ t.back t.known t.heard) refl refl refl refl refl

pub returns-clause-untouched : goal.returns-clause-untouched
returns-clause-untouched c = untouched_set back_known c.args.self.now.receivers.items c.args.b c.hear_back.new.receiver

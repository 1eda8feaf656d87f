use Rattle.std.proofs.Common.{arith, ap, refl, ◌∙◌, inl, inr, ⊎_elim, length, length-set, []}
use Rattle.room_ends.specs.Letters.{records}
use Rattle.room_ends.specs.Orders.{orders}
use Rattle.room_ends.specs.WindowRings.{letters_taken, letters_known, ring_of}
use Rattle.desk_room.specs.Keepers.{OthersRead}
use Rattle.desk_room.proofs.Places.{at_other, at_same, at_old}
use Rattle.desk_room.proofs.Stepping.{took_step, took_owed, took_marked, took_rooms, queues_by_rooms, rooms_still, rings_set}
use Rattle.desk_room.proofs.Ahead.{ahead_taken, refused_still}
use Rattle.desk_room.proofs.Staying.{at_lines}
use Rattle.desk_room.proofs.Fewness.{one_longer, untouched_set}
use Rattle.desk_room.proofs.keepers.Keeper.take_one.Goals as goal

pub take_letter-requires-clause-few : goal.take_letter-requires-clause-few
take_letter-requires-clause-few c =
    let k = c.args.self.now in
    omega (
      arith,
      c.counts.ensures,
      ap (λ l. length (records l))
          (at_old letters_taken k.lines.items c.args.n c.index_mut.result.now [] c.requires.window c.index_mut.ensures.value),
    )

pub invariant_of-self-clause-windows : goal.invariant_of-self-clause-windows
invariant_of-self-clause-windows c =
    let k = c.args.self.now in
    omega (
      arith,
      k.windows,
      length-set k.lines.items c.args.n c.take_letter.new.line,
      queues_by_rooms k.desk c.take_letter.new.desk (took_rooms c.args.n c.index_mut.result.now c.take_letter.new.line k.desk
          c.take_letter.new.desk c.take_letter.result c.take_letter.ensures.took),
    )

pub invariant_of-self-clause-few_windows : goal.invariant_of-self-clause-few_windows
invariant_of-self-clause-few_windows c = let k = c.args.self.now in
    omega (arith, k.few_windows, length-set k.lines.items c.args.n c.take_letter.new.line)

pub invariant_of-self-clause-line_rings : goal.invariant_of-self-clause-line_rings
invariant_of-self-clause-line_rings c = let k = c.args.self.now in rings_set ring_of k.lines.items c.args.n c.index_mut.result.now
    c.take_letter.new.line k.ring c.requires.window c.index_mut.ensures.value c.take_letter.ensures.answers.line.2 k.line_rings

pub invariant_of-self-clause-rooms : goal.invariant_of-self-clause-rooms
invariant_of-self-clause-rooms c =
    let k = c.args.self.now in
    rooms_still k.desk c.take_letter.new.desk k.ring (took_rooms c.args.n c.index_mut.result.now c.take_letter.new.line k.desk
    c.take_letter.new.desk c.take_letter.result c.take_letter.ensures.took) k.rooms

pub invariant_of-self-clause-kept : goal.invariant_of-self-clause-kept
invariant_of-self-clause-kept c =
    let k = c.args.self.now in
    took_owed k.lines.items c.args.n c.index_mut.result.now c.take_letter.new.line k.receivers.items
    (orders k.producer) k.desk c.take_letter.new.desk c.take_letter.result c.requires.window c.index_mut.ensures.value
    c.requires.accepts c.take_letter.ensures.took c.take_letter.ensures.answers.put k.kept

pub invariant_of-self-clause-marked : goal.invariant_of-self-clause-marked
invariant_of-self-clause-marked c =
    let k = c.args.self.now in
    took_marked k.lines.items c.args.n c.index_mut.result.now c.take_letter.new.line k.receivers.items
    (orders k.producer) k.desk c.take_letter.new.desk c.take_letter.result c.requires.window c.index_mut.ensures.value
    c.requires.accepts c.take_letter.ensures.took c.take_letter.ensures.answers.put k.marked

pub returns-clause-step : goal.returns-clause-step
returns-clause-step c =
    let k = c.args.self.now in
    took_step k.lines.items c.args.n c.index_mut.result.now c.take_letter.new.line k.receivers.items
    (orders k.producer) k.desk c.take_letter.new.desk c.take_letter.result c.requires.window c.index_mut.ensures.value
    c.requires.accepts c.take_letter.ensures.took c.take_letter.ensures.answers.put

pub returns-clause-known : goal.returns-clause-known
returns-clause-known c =
    let k = c.args.self.now in
    let o = at_old letters_known k.lines.items c.args.n c.index_mut.result.now [] c.requires.window c.index_mut.ensures.value in
    let p = at_same letters_known k.lines.items c.args.n c.take_letter.new.line [] c.requires.window in
    omega (arith, ap length o, ap length p, ap length c.take_letter.ensures.took.known)

pub returns-clause-others : goal.returns-clause-others
unfolding OthersRead
returns-clause-others c =
    let k = c.args.self.now in
    let t = c.take_letter.ensures.took in
    λ i h. ⊎_elim (λ r. inl (at_other letters_known k.lines.items c.args.n i c.take_letter.new.line [] h ∙ r))
    (λ r. inr (rw (t.content) (refused_still c.args.n i t.letter k.desk c.requires.accepts r)))

pub returns-clause-ends : goal.returns-clause-ends
returns-clause-ends c =
    let t = c.take_letter.ensures.took in
    at_lines c.args.self.now _ c.args.n c.index_mut.result.now c.take_letter.new.line c.requires.window c.index_mut.ensures.value
    c.take_letter.ensures.answers.line (ahead_taken _ _ _ _ t.letter t.known t.taken) refl refl refl refl refl

pub returns-clause-longer : goal.returns-clause-longer
returns-clause-longer c = let t = c.take_letter.ensures.took in one_longer letters_taken c.args.self.now.lines.items c.args.n
    c.index_mut.result.now c.take_letter.new.line t.letter c.requires.window c.index_mut.ensures.value t.taken

pub returns-clause-untouched : goal.returns-clause-untouched
returns-clause-untouched c = untouched_set letters_taken c.args.self.now.lines.items c.args.n c.take_letter.new.line

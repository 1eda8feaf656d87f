use Rattle.std.proofs.Common.{arith, sym, ap, refl, ◌∙◌, subst, inl, inr, ⊎_elim, length, length-set, []}
use Rattle.room_ends.specs.Orders.{orders}
use Rattle.room_ends.specs.WindowRings.{letters_known, ring_of}
use Rattle.desk_room.specs.Kept.{AreOwed}
use Rattle.desk_room.specs.Keepers.{OthersRead}
use Rattle.desk_room.proofs.Places.{at_other, at_same}
use Rattle.desk_room.proofs.Stepping.{of_same, rings_set, ring_at}
use Rattle.desk_room.proofs.Marking.{marked_same}
use Rattle.desk_room.proofs.Ahead.{ahead_looked}
use Rattle.desk_room.proofs.Staying.{at_lines}
use Rattle.desk_room.proofs.keepers.Keeper.look.Goals as goal

pub invariant_of-self-clause-few_windows : goal.invariant_of-self-clause-few_windows
invariant_of-self-clause-few_windows c = let k = c.args.self.now in omega (arith, k.few_windows, length-set k.lines.items c.args.n c.look.new.self)

pub invariant_of-self-clause-line_rings : goal.invariant_of-self-clause-line_rings
invariant_of-self-clause-line_rings c = let k = c.args.self.now in rings_set ring_of k.lines.items c.args.n c.index_mut.result.now
    c.look.new.self k.ring c.requires c.index_mut.ensures.value c.look.ensures.looked.line.2 k.line_rings

pub invariant_of-self-clause-kept : goal.invariant_of-self-clause-kept
invariant_of-self-clause-kept c =
    let k = c.args.self.now in
    subst AreOwed (sym (of_same k.lines.items c.args.n c.index_mut.result.now c.look.new.self k.receivers.items
    (orders k.producer) k.desk c.requires c.index_mut.ensures.value c.look.ensures.looked.taken c.look.ensures.looked.put)) k.kept

pub invariant_of-self-clause-marked : goal.invariant_of-self-clause-marked
invariant_of-self-clause-marked c =
    let k = c.args.self.now in
    marked_same _ _ (of_same k.lines.items c.args.n c.index_mut.result.now c.look.new.self k.receivers.items
    (orders k.producer) k.desk c.requires c.index_mut.ensures.value c.look.ensures.looked.taken c.look.ensures.looked.put) k.marked

pub returns-clause-same : goal.returns-clause-same
returns-clause-same c =
    let k = c.args.self.now in
    of_same k.lines.items c.args.n c.index_mut.result.now c.look.new.self k.receivers.items
    (orders k.producer) k.desk c.requires c.index_mut.ensures.value c.look.ensures.looked.taken c.look.ensures.looked.put

pub returns-clause-known : goal.returns-clause-known
returns-clause-known c = omega (
  arith,
  ap length (at_same letters_known c.args.self.now.lines.items c.args.n c.look.new.self [] c.requires),
  c.look.ensures.count,
)

pub returns-clause-few : goal.returns-clause-few
returns-clause-few c =
    let k = c.args.self.now in
    omega (
      arith,
      c.look.ensures.few,
      c.look.ensures.looked.line.2,
      ring_at ring_of k.lines.items c.args.n c.index_mut.result.now k.ring c.requires c.index_mut.ensures.value k.line_rings,
    )

pub returns-clause-others : goal.returns-clause-others
unfolding OthersRead
returns-clause-others c = λ i h.
    ⊎_elim (λ r. inl (at_other letters_known c.args.self.now.lines.items c.args.n i c.look.new.self [] h ∙ r)) (λ r. inr r)

pub returns-clause-ends : goal.returns-clause-ends
returns-clause-ends c = let e = c.look.ensures.looked in at_lines c.args.self.now _ c.args.n c.index_mut.result.now c.look.new.self c.requires
    c.index_mut.ensures.value e.line (ahead_looked _ _ _ _ e.known e.taken) refl refl refl refl refl

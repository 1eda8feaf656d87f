use Rattle.std.proofs.Common.{rules, arith, sym, ap, refl, ◌∙◌, subst, length, length-set, set, slice_get, get_or, List, [], ◌++◌, map}
use Rattle.std.proofs.Math.Logic.{∥∥₁_elim}
use Rattle.std.specs.Coded.{Coded-set, coded_bool}
use Rattle.room_ends.specs.Orders.{orders}
use Rattle.room_ends.specs.Letters.{records}
use Rattle.room_ends.specs.WindowRings.{AreEnds, letters_taken, letters_known, deliveries_put, ring_of}
use Rattle.room_ends.specs.Windows.{letters_sent, collected, deliveries_known, number_of}
use Rattle.desk_room.specs.Withdrawals.{marks, are_notices_marked}
use Rattle.desk_room.specs.Kept.{AreOwed}
use Rattle.room_ends.specs.declared.window_ring_line.Line.{Line}
use Rattle.desk_room.proofs.Places.{map_length}
use Rattle.desk_room.proofs.Ahead.{ahead_looked}
use Rattle.desk_room.proofs.Stepping.{of_same, rings_set}
use Rattle.desk_room.proofs.Marking.{marked_same}
use Rattle.desk_room.proofs.Settlements.{at_number, settled_at, drained_at, marked_notices}
use Rattle.desk_room.proofs.RingEnds.{ends_stay}
use Rattle.desk_room.proofs.Staying.{got_is, got_inside, got_same, at_lines}
use Rattle.desk_room.proofs.keepers.Keeper.settle.Goals as goal

pub index_mut-requires : goal.index_mut-requires
index_mut-requires c = let h = got_inside c.number.result c.args.self.now.lines.items c.requires.0
    (ap (slice_get c.args.self.now.lines.items) c.number.ensures ∙ c.requires.1) in search rules

pub settle-requires : goal.settle-requires
settle-requires c = subst (λ (l : Line). AreEnds c.args.window.now l)
    (got_is c.number.result c.args.self.now.lines.items c.index_mut.result.now c.requires.0
    (ap (slice_get c.args.self.now.lines.items) c.number.ensures ∙ c.requires.1) c.index_mut.ensures.value) c.requires.2

pub invariant_of-self-clause-few_windows : goal.invariant_of-self-clause-few_windows
invariant_of-self-clause-few_windows c = let k = c.args.self.now in
    omega (arith, k.few_windows, length-set k.lines.items c.number.result c.settle.new.self)

pub invariant_of-self-clause-windows : goal.invariant_of-self-clause-windows
invariant_of-self-clause-windows c = let k = c.args.self.now in k.windows ∙ sym (length-set k.lines.items c.number.result c.settle.new.self)

pub invariant_of-self-clause-line_rings : goal.invariant_of-self-clause-line_rings
invariant_of-self-clause-line_rings c =
    let k = c.args.self.now in
    rings_set ring_of k.lines.items c.number.result c.index_mut.result.now c.settle.new.self k.ring
    (got_inside c.number.result k.lines.items c.requires.0 (ap (slice_get c.args.self.now.lines.items) c.number.ensures
    ∙ c.requires.1)) c.index_mut.ensures.value c.settle.ensures.line.line.2 k.line_rings

pub invariant_of-self-clause-kept : goal.invariant_of-self-clause-kept
invariant_of-self-clause-kept c =
    let k = c.args.self.now in
    subst AreOwed (sym (of_same k.lines.items c.number.result c.index_mut.result.now c.settle.new.self k.receivers.items (orders
    k.producer) k.desk (got_inside c.number.result k.lines.items c.requires.0 (ap (slice_get c.args.self.now.lines.items)
    c.number.ensures ∙ c.requires.1)) c.index_mut.ensures.value c.settle.ensures.line.taken c.settle.ensures.line.put)) k.kept

pub invariant_of-self-clause-marked : goal.invariant_of-self-clause-marked
invariant_of-self-clause-marked c =
    let k = c.args.self.now in
    marked_same _ _ (of_same k.lines.items c.number.result c.index_mut.result.now c.settle.new.self k.receivers.items (orders
    k.producer) k.desk (got_inside c.number.result k.lines.items c.requires.0 (ap (slice_get c.args.self.now.lines.items)
    c.number.ensures ∙ c.requires.1)) c.index_mut.ensures.value c.settle.ensures.line.taken c.settle.ensures.line.put) k.marked

pub returns-clause-lists : goal.returns-clause-lists
returns-clause-lists c =
    let k = c.args.self.now in
    of_same k.lines.items c.number.result c.index_mut.result.now c.settle.new.self k.receivers.items (orders k.producer) k.desk
    (got_inside c.number.result k.lines.items c.requires.0 (ap (slice_get c.args.self.now.lines.items) c.number.ensures
    ∙ c.requires.1)) c.index_mut.ensures.value c.settle.ensures.line.taken c.settle.ensures.line.put

pub returns-clause-letters : goal.returns-clause-letters
returns-clause-letters c =
    let k = c.args.self.now in
    let inside = got_inside c.number.result k.lines.items c.requires.0 (ap (slice_get c.args.self.now.lines.items) c.number.ensures ∙ c.requires.1) in
    c.settle.ensures.letters
    ∙ (ap (λ xs. xs ++ letters_known c.settle.new.self) (sym (at_number letters_taken k.lines.items c.number.result
    (number_of c.settle.new.window) c.settle.new.self [] (c.settle.ensures.window.window.2 ∙ sym c.number.ensures) inside))
    ∙ ap (λ xs. get_or (map letters_taken (set k.lines.items c.number.result c.settle.new.self))
    (number_of c.settle.new.window) [] ++ xs) (sym (at_number letters_known k.lines.items c.number.result
    (number_of c.settle.new.window) c.settle.new.self [] (c.settle.ensures.window.window.2 ∙ sym c.number.ensures) inside)))

pub returns-clause-deliveries : goal.returns-clause-deliveries
returns-clause-deliveries c =
    let k = c.args.self.now in
    at_number deliveries_put k.lines.items c.number.result (number_of c.settle.new.window) c.settle.new.self []
    (c.settle.ensures.window.window.2 ∙ sym c.number.ensures) (got_inside c.number.result k.lines.items c.requires.0
    (ap (slice_get c.args.self.now.lines.items) c.number.ensures ∙ c.requires.1)) ∙ c.settle.ensures.deliveries

pub returns-clause-left : goal.returns-clause-left
returns-clause-left c =
    let k = c.args.self.now in
    c.settle.ensures.left ∙ ap (λ xs. length (records xs)) (sym (at_number letters_known k.lines.items c.number.result
    (number_of c.settle.new.window) c.settle.new.self [] (c.settle.ensures.window.window.2 ∙ sym c.number.ensures) (got_inside
    c.number.result k.lines.items c.requires.0 (ap (slice_get c.args.self.now.lines.items) c.number.ensures ∙ c.requires.1))))

pub returns-clause-settled : goal.returns-clause-settled
returns-clause-settled c =
    let k = c.args.self.now in
    let inside = got_inside c.number.result k.lines.items c.requires.0 (ap (slice_get c.args.self.now.lines.items) c.number.ensures ∙ c.requires.1) in
    let lines : List Line = set k.lines.items c.number.result c.settle.new.self in
    settled_at (number_of c.settle.new.window) (map letters_taken lines) (map deliveries_put lines) k.desk.queues
    (letters_sent c.settle.new.window) _ (collected c.settle.new.window ++ deliveries_known c.settle.new.window)
    (omega (
      arith,
      inside,
      (c.settle.ensures.window.window.2 ∙ sym c.number.ensures),
      map_length letters_taken lines,
      length-set k.lines.items c.number.result c.settle.new.self,
    ))
    (subst AreOwed (sym (of_same k.lines.items c.number.result c.index_mut.result.now c.settle.new.self k.receivers.items
    (orders k.producer) k.desk inside c.index_mut.ensures.value c.settle.ensures.line.taken c.settle.ensures.line.put)) k.kept)
    (returns-clause-letters c) (returns-clause-deliveries c)

pub returns-clause-drained : goal.returns-clause-drained
returns-clause-drained c =
    λ d. drained_at (number_of c.settle.new.window) c.args.self.now.desk (letters_sent c.settle.new.window) (get_or
    (map letters_known (set c.args.self.now.lines.items c.number.result c.settle.new.self)) (number_of c.settle.new.window) [])
    (collected c.settle.new.window ++ deliveries_known c.settle.new.window) d (returns-clause-settled c)

pub returns-clause-notices : goal.returns-clause-notices
returns-clause-notices c =
    let k = c.args.self.now in
    let lines : List Line = set k.lines.items c.number.result c.settle.new.self in
    let n = number_of c.settle.new.window in
    let inside = got_inside c.number.result k.lines.items c.requires.0 (ap (slice_get c.args.self.now.lines.items) c.number.ensures ∙ c.requires.1) in
    ∥∥₁_elim (marked_same _ _ (of_same k.lines.items c.number.result c.index_mut.result.now c.settle.new.self k.receivers.items
    (orders k.producer) k.desk inside c.index_mut.ensures.value c.settle.ensures.line.taken c.settle.ensures.line.put) k.marked)
    (Coded-set coded_bool _ _)
    (λ a. ap (λ ds. are_notices_marked ds (marks (get_or (map letters_taken lines) n []))) (sym (returns-clause-deliveries c))
    ∙ marked_notices n (map letters_taken lines) (map deliveries_put lines) k.desk.queues a)

pub returns-clause-of : goal.returns-clause-of
returns-clause-of c =
    let k = c.args.self.now in
    let inside = got_inside c.number.result k.lines.items c.requires.0
    (ap (slice_get c.args.self.now.lines.items) c.number.ensures ∙ c.requires.1) in (
      c.settle.new.self,
      ap (slice_get (set k.lines.items c.number.result c.settle.new.self)) (c.settle.ensures.window.window.2 ∙ sym c.number.ensures)
          ∙ got_same c.number.result k.lines.items c.settle.new.self inside,
      ends_stay c.args.window.now c.settle.new.window c.index_mut.result.now c.settle.new.self
          (subst (λ (l : Line). AreEnds c.args.window.now l) (got_is c.number.result k.lines.items c.index_mut.result.now
          c.requires.0 (ap (slice_get c.args.self.now.lines.items) c.number.ensures ∙ c.requires.1) c.index_mut.ensures.value)
          c.requires.2) c.settle.ensures.window.window c.settle.ensures.line.line,
    )

pub returns-clause-stays : goal.returns-clause-stays
returns-clause-stays c =
    let k = c.args.self.now in
    let e = c.settle.ensures.line in
    (at_lines k _ c.number.result c.index_mut.result.now c.settle.new.self
    (got_inside c.number.result k.lines.items c.requires.0 (ap (slice_get k.lines.items) c.number.ensures ∙ c.requires.1))
    c.index_mut.ensures.value e.line (ahead_looked _ _ _ _ e.known e.taken) refl refl refl refl refl).stays

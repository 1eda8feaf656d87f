use Rattle.std.proofs.Common.{◌∙◌, sym, ap, refl, arith}
use Rattle.std.specs.List.{list_any}
use Rattle.mate_desk.specs.Content.{EntryValue, QueueValue, Out, lowest, has_ticket, waits_as}
use Rattle.mate_desk.specs.Calls.{in_queue, into_phase}
use Rattle.mate_desk.proofs.Changes.{got}
use Rattle.mate_desk.proofs.Waiting.{first_found, first_lowest, none_found, marks_without}
use Rattle.mate_desk.proofs.Kept.{kept_set, solved_taken, taken, Taken}
use Rattle.mate_desk.proofs.queues.Queue.take.Goals as goal

pub returns-in_err-place-clause-none : goal.returns-in_err-place-clause-none
returns-in_err-place-clause-none c =
    let k = c.self.invariant in
    let none = none_found c.self.inside.waiting c.self.inside.entries.items k.5 (omega (arith, k.1, k.2)) c.in_err-place.ensures.none in
    rw c.from_residual.ensures (ap (λ (q : QueueValue). lowest q.pending) (sym c.self.view_is) ∙ none, refl)

pub index_mut-requires : goal.index_mut-requires
index_mut-requires c =
    let first = first_found c.self.inside.waiting c.self.inside.entries.items c.in_ok-place.place c.self.invariant.5
    c.in_ok-place.ensures.inside c.in_ok-place.ensures.lowest in
    omega (arith, first.inside, c.self.inside.entries.ok.0)

pub invariant_of-self : goal.invariant_of-self
invariant_of-self c =
    let q : QueueValue = record { room = c.self.inside.room; delivered = c.self.inside.delivered; pending = c.self.inside.entries.items } in
    let e : EntryValue = c.index_mut.result.now in
    let first = first_found c.self.inside.waiting q.pending c.in_ok-place.place c.self.invariant.5
    c.in_ok-place.ensures.inside c.in_ok-place.ensures.lowest in
    let there = got q.pending c.in_ok-place.place e first.inside c.index_mut.ensures.value in
    let marks = marks_without c.self.inside.waiting c.without_place-self-inside.result q.pending c.in_ok-place.place e
    c.take.new.self c.self.invariant.5 there (rw c.take.ensures.out refl) c.without_place-self-inside.ensures in
    let waited = (first_lowest q.pending c.in_ok-place.place e c.self.invariant.4 first there).0 in
    let solved = solved_taken c.self.inside.solved.items q.pending c.in_ok-place.place e c.take.new.self c.self.invariant.7
    there waited (rw c.take.ensures.out refl) in
    kept_set _ _ c.self.inside.waiting c.without_place-self-inside.result c.self.inside.solved.items c.self.inside.solved.items q
    c.in_ok-place.place e c.take.new.self c.self.invariant there
    (ap (λ (x : EntryValue). x.ticket) c.take.ensures.out) marks solved

the_taken : (c : goal.After-self-2-1) → Taken (record {
  room = c.self.inside.room;
  delivered = c.self.inside.delivered;
  pending = c.self.inside.entries.items;
}) c.take.result c.in_ok-place.place c.take.new.self
the_taken c =
    let q : QueueValue = record { room = c.self.inside.room; delivered = c.self.inside.delivered; pending = c.self.inside.entries.items } in
    let e : EntryValue = c.index_mut.result.now in
    let first = first_found c.self.inside.waiting q.pending c.in_ok-place.place c.self.invariant.5
    c.in_ok-place.ensures.inside c.in_ok-place.ensures.lowest in
    let there = got q.pending c.in_ok-place.place e first.inside c.index_mut.ensures.value in
    taken q c.take.result c.in_ok-place.place e c.take.new.self c.self.invariant.4 first there c.take.ensures.task c.take.ensures.out

pub returns-clause-lowest : goal.returns-clause-lowest
returns-clause-lowest c = ap (λ (q : QueueValue). lowest q.pending) (sym c.self.view_is) ∙ (the_taken c).lowest

pub returns-clause-out : goal.returns-clause-out
returns-clause-out c = (the_taken c).out ∙ ap (in_queue (into_phase (waits_as c.take.result) Out)) c.self.view_is

pub returns-clause-by_ticket : goal.returns-clause-by_ticket
returns-clause-by_ticket c = (the_taken c).by_ticket ∙ ap (in_queue (into_phase (has_ticket c.take.result.ticket) Out)) c.self.view_is

pub returns-clause-waited : goal.returns-clause-waited
returns-clause-waited c = ap (λ (q : QueueValue). list_any (waits_as c.take.result) q.pending) (sym c.self.view_is) ∙ (the_taken c).waited

pub returns-clause-given : goal.returns-clause-given
returns-clause-given c = (the_taken c).given

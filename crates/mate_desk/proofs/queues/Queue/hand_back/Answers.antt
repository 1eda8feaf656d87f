use Rattle.std.proofs.Common.{◌≡◌, ◌∙◌, sym, ap, refl, arith, subst, true, false}
use Rattle.mate_desk.specs.Content.{EntryValue, QueueValue, Waiting, waits, has_ticket, is_out_with}
use Rattle.mate_desk.specs.Calls.{in_queue, into_phase}
use Rattle.mate_desk.specs.inside.Keeping.{IsOutAt}
use Rattle.mate_desk.proofs.Changes.{got, read_set}
use Rattle.mate_desk.proofs.Waiting.{marks_same, marks_with}
use Rattle.mate_desk.proofs.Kept.{kept_set, solved_back, returned, Returned, out_at_waits, out_inside}
use Rattle.mate_desk.proofs.queues.Queue.hand_back.Goals as goal

pub invariant_of-self : goal.invariant_of-self
invariant_of-self c =
    let q : QueueValue = record { room = c.self.inside.room; delivered = c.self.inside.delivered; pending = c.self.inside.entries.items } in
    let e : EntryValue = c.index_mut.result.now in
    let y : EntryValue = c.hand_back.new.self in
    let at : IsOutAt c.args.job.now c.args.place q.pending =
    subst (λ (m : QueueValue). IsOutAt c.args.job.now c.args.place m.pending) (sym c.self.view_is) c.requires in
    let there = got q.pending c.args.place e (out_inside c.args.job.now c.args.place q.pending at) c.index_mut.ensures.value in
    let idle = out_at_waits c.args.job.now c.args.place q.pending e at there in
    let read = read_set c.args.place q.pending e y c.index.result.now there c.index.ensures in
    let gone : e.withdrawn ≡ true = ap (λ (x : EntryValue). x.withdrawn) (sym c.hand_back.ensures ∙ read)
    ∙ (sym c.is_withdrawn.ensures ∙ c.if-is_withdrawn.true) in
    let still : waits y ≡ false = rw (c.hand_back.ensures, gone) refl in
    let marks = marks_same c.self.inside.waiting q.pending c.args.place e y c.self.invariant.5 there (still ∙ sym idle) in
    let solved = solved_back c.self.inside.solved.items c.args.job.now q.pending c.args.place e y c.self.invariant.7 at there
    (rw c.hand_back.ensures refl) in
    kept_set _ _ c.self.inside.waiting c.self.inside.waiting c.self.inside.solved.items c.self.inside.solved.items q c.args.place
    e y c.self.invariant there (ap (λ (x : EntryValue). x.ticket) c.hand_back.ensures) marks solved

gone_returned : (c : goal.Then-is_withdrawn) → Returned (record {
  room = c.self.inside.room;
  delivered = c.self.inside.delivered;
  pending = c.self.inside.entries.items;
}) c.args.job.now Waiting c.args.place c.hand_back.new.self
gone_returned c =
    let q : QueueValue = record { room = c.self.inside.room; delivered = c.self.inside.delivered; pending = c.self.inside.entries.items } in
    let at : IsOutAt c.args.job.now c.args.place q.pending =
    subst (λ (m : QueueValue). IsOutAt c.args.job.now c.args.place m.pending) (sym c.self.view_is) c.requires in
    let there = got q.pending c.args.place c.index_mut.result.now (out_inside c.args.job.now c.args.place q.pending at) c.index_mut.ensures.value in
    returned q c.args.job.now Waiting c.args.place c.index_mut.result.now c.hand_back.new.self c.self.invariant.4 at there c.hand_back.ensures

pub returns-then-is_withdrawn-clause-back : goal.returns-then-is_withdrawn-clause-back
returns-then-is_withdrawn-clause-back c = (gone_returned c).back ∙ ap (in_queue (into_phase (is_out_with c.args.job.now) Waiting)) c.self.view_is

pub returns-then-is_withdrawn-clause-by_ticket : goal.returns-then-is_withdrawn-clause-by_ticket
returns-then-is_withdrawn-clause-by_ticket c =
    (gone_returned c).by_ticket ∙ ap (in_queue (into_phase (has_ticket c.args.job.now.ticket) Waiting)) c.self.view_is

pub with_place-self-inside-requires : goal.with_place-self-inside-requires
with_place-self-inside-requires c =
    let q : QueueValue = record { room = c.self.inside.room; delivered = c.self.inside.delivered; pending = c.self.inside.entries.items } in
    let at : IsOutAt c.args.job.now c.args.place q.pending =
    subst (λ (m : QueueValue). IsOutAt c.args.job.now c.args.place m.pending) (sym c.self.view_is) c.requires in
    omega (arith, out_inside c.args.job.now c.args.place q.pending at, c.self.invariant.1, c.self.invariant.2)

pub invariant_of-self-2 : goal.invariant_of-self-2
invariant_of-self-2 c =
    let q : QueueValue = record { room = c.self.inside.room; delivered = c.self.inside.delivered; pending = c.self.inside.entries.items } in
    let e : EntryValue = c.index_mut.result.now in
    let y : EntryValue = c.hand_back.new.self in
    let at : IsOutAt c.args.job.now c.args.place q.pending =
    subst (λ (m : QueueValue). IsOutAt c.args.job.now c.args.place m.pending) (sym c.self.view_is) c.requires in
    let there = got q.pending c.args.place e (out_inside c.args.job.now c.args.place q.pending at) c.index_mut.ensures.value in
    let read = read_set c.args.place q.pending e y c.index.result.now there c.index.ensures in
    let free : e.withdrawn ≡ false = ap (λ (x : EntryValue). x.withdrawn) (sym c.hand_back.ensures ∙ read)
    ∙ (sym c.is_withdrawn.ensures ∙ c.if-is_withdrawn.false) in
    let marks = marks_with c.self.inside.waiting c.with_place-self-inside.result q.pending c.args.place e y c.self.invariant.5
    there (rw (c.hand_back.ensures, free) refl) c.with_place-self-inside.ensures in
    let solved = solved_back c.self.inside.solved.items c.args.job.now q.pending c.args.place e y c.self.invariant.7 at there
    (rw c.hand_back.ensures refl) in
    kept_set _ _ c.self.inside.waiting c.with_place-self-inside.result c.self.inside.solved.items c.self.inside.solved.items q
    c.args.place e y c.self.invariant there (ap (λ (x : EntryValue). x.ticket) c.hand_back.ensures) marks solved

waits_returned : (c : goal.After-self-2-1) → Returned (record {
  room = c.self.inside.room;
  delivered = c.self.inside.delivered;
  pending = c.self.inside.entries.items;
}) c.args.job.now Waiting c.args.place c.hand_back.new.self
waits_returned c =
    let q : QueueValue = record { room = c.self.inside.room; delivered = c.self.inside.delivered; pending = c.self.inside.entries.items } in
    let at : IsOutAt c.args.job.now c.args.place q.pending =
    subst (λ (m : QueueValue). IsOutAt c.args.job.now c.args.place m.pending) (sym c.self.view_is) c.requires in
    let there = got q.pending c.args.place c.index_mut.result.now (out_inside c.args.job.now c.args.place q.pending at) c.index_mut.ensures.value in
    returned q c.args.job.now Waiting c.args.place c.index_mut.result.now c.hand_back.new.self c.self.invariant.4 at there c.hand_back.ensures

pub returns-clause-back : goal.returns-clause-back
returns-clause-back c = (waits_returned c).back ∙ ap (in_queue (into_phase (is_out_with c.args.job.now) Waiting)) c.self.view_is

pub returns-clause-by_ticket : goal.returns-clause-by_ticket
returns-clause-by_ticket c = (waits_returned c).by_ticket ∙ ap (in_queue (into_phase (has_ticket c.args.job.now.ticket) Waiting)) c.self.view_is

use Rattle.std.proofs.Common.{◌∙◌, ◌++◌, ◌∷◌, [], sym, ap, subst, arith}
use Rattle.mate_desk.specs.Content.{EntryValue, QueueValue, Finished, has_ticket, is_out_with}
use Rattle.mate_desk.specs.Calls.{in_queue, into_phase}
use Rattle.mate_desk.specs.inside.Keeping.{IsOutAt}
use Rattle.mate_desk.proofs.Changes.{got}
use Rattle.mate_desk.proofs.Waiting.{marks_same}
use Rattle.mate_desk.proofs.Kept.{kept_set, solved_done, place_for, returned, out_at_waits, out_inside}
use Rattle.mate_desk.proofs.queues.Queue.finish.Goals as goal

pub index_mut-requires : goal.index_mut-requires
index_mut-requires c =
    let at : IsOutAt c.args.done c.args.place c.self.inside.entries.items =
    subst (λ (m : QueueValue). IsOutAt c.args.done c.args.place m.pending) (sym c.self.view_is) c.requires in
    omega (arith, out_inside c.args.done c.args.place c.self.inside.entries.items at, c.self.inside.entries.ok.0)

pub push_reserved-requires : goal.push_reserved-requires
push_reserved-requires c =
    let q : QueueValue = record { room = c.self.inside.room; delivered = c.self.inside.delivered; pending = c.self.inside.entries.items } in
    let at : IsOutAt c.args.done c.args.place q.pending =
    subst (λ (m : QueueValue). IsOutAt c.args.done c.args.place m.pending) (sym c.self.view_is) c.requires in
    omega (
      arith,
      place_for c.self.inside.solved.items c.args.done q.pending c.args.place c.self.invariant.7 at,
      c.self.invariant.2,
      c.self.invariant.6,
      c.self.inside.solved.ok.0,
    )

pub invariant_of-self : goal.invariant_of-self
invariant_of-self c =
    let q : QueueValue = record { room = c.self.inside.room; delivered = c.self.inside.delivered; pending = c.self.inside.entries.items } in
    let at : IsOutAt c.args.done c.args.place q.pending =
    subst (λ (m : QueueValue). IsOutAt c.args.done c.args.place m.pending) (sym c.self.view_is) c.requires in
    let there = got q.pending c.args.place c.index_mut.result.now (out_inside c.args.done c.args.place q.pending at) c.index_mut.ensures.value in
    let waits = out_at_waits c.args.done c.args.place q.pending c.index_mut.result.now at there in
    let marks = marks_same c.self.inside.waiting q.pending c.args.place c.index_mut.result.now c.finish.new.self
    c.self.invariant.5 there (rw c.finish.ensures (sym waits)) in
    let solved = solved_done c.self.inside.solved.items c.args.done q.pending c.args.place c.index_mut.result.now
    c.finish.new.self c.self.invariant.7 at there c.finish.ensures in
    let k = kept_set _ _ c.self.inside.waiting c.self.inside.waiting c.self.inside.solved.items
    (c.self.inside.solved.items ++ c.args.done ∷ []) q c.args.place c.index_mut.result.now c.finish.new.self c.self.invariant
    there (ap (λ (x : EntryValue). x.ticket) c.finish.ensures) marks solved in
    (k.0, k.1, k.2, k.3, k.4, k.5, omega (arith, k.6, c.push_reserved.ensures.capacity), rw c.push_reserved.ensures.items k.7)

pub returns-clause-finished : goal.returns-clause-finished
returns-clause-finished c =
    let q : QueueValue = record { room = c.self.inside.room; delivered = c.self.inside.delivered; pending = c.self.inside.entries.items } in
    let at : IsOutAt c.args.done c.args.place q.pending =
    subst (λ (m : QueueValue). IsOutAt c.args.done c.args.place m.pending) (sym c.self.view_is) c.requires in
    let there = got q.pending c.args.place c.index_mut.result.now (out_inside c.args.done c.args.place q.pending at) c.index_mut.ensures.value in
    (returned q c.args.done Finished c.args.place c.index_mut.result.now c.finish.new.self c.self.invariant.4 at there
    c.finish.ensures).back ∙ ap (in_queue (into_phase (is_out_with c.args.done) Finished)) c.self.view_is

pub returns-clause-by_ticket : goal.returns-clause-by_ticket
returns-clause-by_ticket c =
    let q : QueueValue = record { room = c.self.inside.room; delivered = c.self.inside.delivered; pending = c.self.inside.entries.items } in
    let at : IsOutAt c.args.done c.args.place q.pending =
    subst (λ (m : QueueValue). IsOutAt c.args.done c.args.place m.pending) (sym c.self.view_is) c.requires in
    let there = got q.pending c.args.place c.index_mut.result.now (out_inside c.args.done c.args.place q.pending at) c.index_mut.ensures.value in
    (returned q c.args.done Finished c.args.place c.index_mut.result.now c.finish.new.self c.self.invariant.4 at there
    c.finish.ensures).by_ticket ∙ ap (in_queue (into_phase (has_ticket c.args.done.ticket) Finished)) c.self.view_is

use Rattle.std.proofs.Common.{◌∙◌, sym, ap, Some, arith}
use Rattle.mate_desk.specs.Content.{QueueValue, lowest}
use Rattle.mate_desk.proofs.Changes.{got}
use Rattle.mate_desk.proofs.Waiting.{first_found, first_lowest, none_found}
use Rattle.mate_desk.proofs.queues.Queue.lowest.Goals as goal

pub returns-in_err-place : goal.returns-in_err-place
returns-in_err-place c =
    let k = c.self.invariant in
    let none = none_found c.self.inside.waiting c.self.inside.entries.items k.5 (omega (arith, k.1, k.2)) c.in_err-place.ensures.none in
    c.from_residual.ensures ∙ sym (ap (λ (q : QueueValue). lowest q.pending) (sym c.self.view_is) ∙ none)

pub index-requires : goal.index-requires
index-requires c =
    let first = first_found c.self.inside.waiting c.self.inside.entries.items c.in_ok-place.place c.self.invariant.5
    c.in_ok-place.ensures.inside c.in_ok-place.ensures.lowest in
    omega (arith, first.inside, c.self.inside.entries.ok.0)

pub returns : goal.returns
returns c =
    let first = first_found c.self.inside.waiting c.self.inside.entries.items c.in_ok-place.place c.self.invariant.5
    c.in_ok-place.ensures.inside c.in_ok-place.ensures.lowest in
    let there = got c.self.inside.entries.items c.in_ok-place.place c.index.result.now first.inside c.index.ensures in
    let found = first_lowest c.self.inside.entries.items c.in_ok-place.place c.index.result.now c.self.invariant.4 first there in
    ap Some (c.result.view_is ∙ c.ticket.ensures) ∙ sym (ap (λ (q : QueueValue). lowest q.pending) (sym c.self.view_is) ∙ found.1)

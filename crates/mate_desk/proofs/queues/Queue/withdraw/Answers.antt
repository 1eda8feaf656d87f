use Rattle.std.proofs.Common.{◌≡◌, ◌∙◌, ◌+◌, ◌-◌, ◌<◌, ◌≤◌, ℕ, ap, arith, sym, false, length, Some}
use Rattle.mate_desk.specs.Content.{EntryValue, QueueValue}
use Rattle.mate_desk.specs.Calls.{withdrawn_at, withdraw_refusal_of}
use Rattle.mate_desk.proofs.Changes.{got, got_one}
use Rattle.mate_desk.proofs.Waiting.{marks_without}
use Rattle.mate_desk.proofs.Kept.{kept_set, solved_withdrawn, marked, Marked, refused_twice, withdrawn_waits}
use Rattle.mate_desk.proofs.queues.Queue.withdraw.Goals as goal

pub invariant_of-self : goal.invariant_of-self
invariant_of-self c =
    let q : QueueValue = record { room = c.self.inside.room; delivered = c.self.inside.delivered; pending = c.self.inside.entries.items } in
    let e : EntryValue = c.index_mut.result.now in
    let place : ℕ = c.args.n - c.self.inside.delivered in
    let there = got q.pending place e (omega (
      arith,
      c.if-self-len.false,
      c.if-n-self.false,
      c.len.ensures,
      c.self.inside.entries.ok.0,
    )) c.index_mut.ensures.value in
    let marks = marks_without c.self.inside.waiting c.without_place-self-inside.result q.pending place e c.withdraw.new.self
    c.self.invariant.5 there (rw c.withdraw.ensures (withdrawn_waits e)) c.without_place-self-inside.ensures in
    let solved = solved_withdrawn c.self.inside.solved.items q.pending place e c.withdraw.new.self c.self.invariant.7 there c.withdraw.ensures in
    kept_set _ _ c.self.inside.waiting c.without_place-self-inside.result c.self.inside.solved.items c.self.inside.solved.items q
    place e c.withdraw.new.self c.self.invariant there (ap (λ (x : EntryValue). x.ticket) c.withdraw.ensures) marks solved

the_marked : (c : goal.After-self-2-1) → Marked (record {
  room = c.self.inside.room;
  delivered = c.self.inside.delivered;
  pending = c.self.inside.entries.items;
}) c.args.n c.withdraw.new.self
the_marked c =
    let q : QueueValue = record { room = c.self.inside.room; delivered = c.self.inside.delivered; pending = c.self.inside.entries.items } in
    let e : EntryValue = c.index_mut.result.now in
    let place : ℕ = c.args.n - c.self.inside.delivered in
    let there = got q.pending place e (omega (
      arith,
      c.if-self-len.false,
      c.if-n-self.false,
      c.len.ensures,
      c.self.inside.entries.ok.0,
    )) c.index_mut.ensures.value in
    let read = got q.pending place c.index.result.now
    (omega (arith, c.if-self-len.false, c.if-n-self.false, c.len.ensures, c.self.inside.entries.ok.0)) c.index.ensures in
    let free : e.withdrawn ≡ false = ap (λ (x : EntryValue). x.withdrawn) (got_one e c.index.result.now (sym there ∙ read))
    ∙ (sym c.is_withdrawn.ensures ∙ c.if-is_withdrawn.false) in
    marked q c.args.n e c.withdraw.new.self (omega (arith, c.if-self-len.false, c.len.ensures, c.self.inside.entries.ok.0))
    (omega (arith, c.if-n-self.false)) there free c.withdraw.ensures

pub returns-clause-accepted : goal.returns-clause-accepted
returns-clause-accepted c = ap (λ (q : QueueValue). withdraw_refusal_of (Some q) c.args.n) (sym c.self.view_is) ∙ (the_marked c).refusal

pub returns-clause-withdrawn : goal.returns-clause-withdrawn
returns-clause-withdrawn c = (the_marked c).withdrawn ∙ ap (withdrawn_at c.args.n) c.self.view_is

pub returns-then-is_withdrawn-clause-refusal : goal.returns-then-is_withdrawn-clause-refusal
returns-then-is_withdrawn-clause-refusal c =
    let q : QueueValue = record { room = c.self.inside.room; delivered = c.self.inside.delivered; pending = c.self.inside.entries.items } in
    let accepted : c.args.n < q.delivered + length q.pending =
    omega (arith, c.if-self-len.false, c.len.ensures, c.self.inside.entries.ok.0) in
    let from : q.delivered ≤ c.args.n = omega (arith, c.if-n-self.false) in
    let there = got q.pending (c.args.n - q.delivered) c.index.result.now (omega (arith, accepted, from)) c.index.ensures in
    ap (λ (q : QueueValue). withdraw_refusal_of (Some q) c.args.n) (sym c.self.view_is)
    ∙ refused_twice q c.args.n c.index.result.now accepted from there (sym c.is_withdrawn.ensures ∙ c.if-is_withdrawn.true)

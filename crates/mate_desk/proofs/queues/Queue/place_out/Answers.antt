use Rattle.std.proofs.Common.{◌≡◌, ◌∙◌, ℕ, sym, ap, false, arith, List, Some, None, slice_get, rules}
use Rattle.std.specs.List.{list_any}
use Rattle.std.proofs.lemmas.List.Sorted.{IsPartitionPoint-from_clause}
use Rattle.mate_jobs.specs.Jobs.{Task}
use Rattle.mate_desk.specs.Content.{EntryValue, QueueValue, is_out_with}
use Rattle.mate_desk.proofs.Changes.{got, got_one, got_past}
use Rattle.mate_desk.proofs.Seeking.{is_before, parted, none_out}
use Rattle.mate_desk.proofs.queues.Queue.place_out.Goals as goal
use Rattle.mate_desk.proofs.queues.Queue.place_out.Goals.{else-place-len-via-then-place-len+else-is_out_with, else-place-len-via-else-place-len}

pub returns-clause-none : goal.returns-clause-none
returns-clause-none c =
    let task : Task = record { ticket = c.args.ticket; problem = c.args.problem.now } in
    let es : List EntryValue = c.self.inside.entries.items in
    let place : ℕ = c.partition_point-place.result in
    let point = IsPartitionPoint-from_clause (is_before c.ticket.inside.0) es place c.partition_point-place.ensures.partitioned
    (parted c.ticket.inside.0 es c.self.invariant.4) (λ a r q k. search rules) in
    let point = rw c.ticket.view_is at point in
    let none : ((e : EntryValue) → slice_get es place ≡ Some e → is_out_with task e ≡ false)
    → list_any (is_out_with task) c.args.self.now.pending ≡ false =
    λ here. ap (λ (q : QueueValue). list_any (is_out_with task) q.pending) (sym c.self.view_is)
    ∙ none_out 0 task es place c.self.invariant.4 (λ k d h. point.0 k d (omega arith) h) point.1 here in
    elim c.else-place-len.branch [
      | else-place-len-via-then-place-len+else-is_out_with w ↦ none (λ e g.
          let there = got es place w.index.result.now
          (omega (arith, w.if-place-len.true, c.len.ensures, c.self.inside.entries.ok.0)) w.index.ensures in
          let same : e ≡ w.index.result.now = got_one e w.index.result.now (sym g ∙ there) in
          ap (is_out_with task) same ∙ (sym w.is_out_with.ensures.exact ∙ w.if-is_out_with.false))
      | else-place-len-via-else-place-len w ↦ none (λ e g.
          let past : slice_get es place ≡ None = got_past es place (omega (arith, w.if-place-len.false, c.len.ensures, c.self.inside.entries.ok.0)) in
          cc)
    ]

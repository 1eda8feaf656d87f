use Rattle.std.proofs.Common.{◌≡◌, ◌∙◌, ◌+◌, ◌<◌, ◌^◌, ◌∷◌, ℕ, arith, subst, sym, refl, rules, List, length, ap, get_or, sum_by, false}
use Rattle.std.proofs.Common.{◌≤◌, [], is_some, true}
use Rattle.mate_jobs.specs.Jobs.{Task}
use Rattle.mate_desk.specs.Content.{EntryValue, QueueValue, is_finished}
use Rattle.mate_desk.specs.Calls.{ready_first}
use Rattle.mate_desk.specs.inside.Keeping.{Marks, AreSolved, finished_by}
use Rattle.mate_desk.specs.inside.PlaceBits.{has_place}
use Rattle.mate_desk.proofs.OwnJobs.{solved_first}
use Rattle.mate_desk.proofs.Waiting.{marks_lower}
use Rattle.mate_desk.proofs.Kept.{IsKept, kept_rest}
use Rattle.mate_desk.proofs.queues.Queue.deliver.Goals as goal

-- The entry that leaves is the one that was seen.
the_first : (es left : List EntryValue) (seen e : EntryValue) → seen ≡ get_or es 0 seen → es ≡ e ∷ left → seen ≡ e
the_first es left seen e read is = read ∙ ap (λ (xs : List EntryValue). get_or xs 0 seen) is

-- What is kept where the first entry leaves.
left_kept : (capacity places word new : ℕ) (solved rest : List Task) (q : QueueValue) (e : EntryValue) (es : List EntryValue)
    → IsKept capacity places word solved q → q.pending ≡ e ∷ es → word < 2 ^ 64
    → ((place : ℕ) → place < 64 → has_place new place ≡ has_place word (place + 1))
    → ((f : Task → ℕ) → sum_by f solved ≡ sum_by f rest + finished_by f e)
    → IsKept capacity places new rest (record { room = q.room; delivered = q.delivered + 1; pending = es })
left_kept capacity places word new solved rest q e es k is fits lower gone =
    let few : length es < 64 = omega (arith, k.1, k.2, ap length is) in
    kept_rest capacity places word new solved rest q e es k is
    (marks_lower word new e es fits few (subst (Marks word) is k.5) lower) gone

-- What was solved of the first entry, where that is finished, is there.
own_there : (solved : List Task) (es : List EntryValue) (e : EntryValue) → AreSolved solved es → is_some (ready_first es) ≡ true
    → e ≡ get_or es 0 e → (f : Task → ℕ) → finished_by f e ≤ sum_by f solved
own_there solved [] e s some read f = cc
own_there solved (x ∷ es) e s some read f = omega (arith, ap (finished_by f) read, solved_first f solved x es s)

pub take_solved-done-requires-clause-there : goal.take_solved-done-requires-clause-there
take_solved-done-requires-clause-there c =
    own_there c.self.inside.solved.items c.self.inside.entries.items c.index-first.result.now c.self.invariant.7
    (ap (λ (q : QueueValue). is_some (ready_first q.pending)) c.self.view_is ∙ c.requires) c.index-first.ensures

pub invariant_of-self : goal.invariant_of-self
invariant_of-self c =
    let q : QueueValue = record { room = c.self.inside.room; delivered = c.self.inside.delivered; pending = c.self.inside.entries.items } in
    let e : EntryValue = c.leave.result in
    let same = the_first q.pending c.leave.new.entries.items c.index-first.result.now e c.index-first.ensures c.leave.ensures.entries in
    let not_yet : is_finished e.phase ≡ false =
    ap (λ (x : EntryValue). is_finished x.phase) (sym same) ∙ (sym c.is_finished.ensures ∙ c.if-not-is_finished.true) in
    let fits : c.self.inside.waiting < 2 ^ 64 = search rules in
    let gone : (f : Task → ℕ) → sum_by f c.self.inside.solved.items ≡ sum_by f c.self.inside.solved.items + finished_by f e =
    λ f. (let none : finished_by f e ≡ 0 = rw not_yet refl in omega (arith, none)) in
    let k = left_kept _ _ c.self.inside.waiting c.lower_places-self-inside.result c.self.inside.solved.items c.self.inside.solved.items q
    e c.leave.new.entries.items c.self.invariant c.leave.ensures.entries fits c.lower_places-self-inside.ensures gone in
    (omega (arith, k.0, c.leave.ensures.capacity), k.1, k.2, k.3, k.4, k.5, k.6, k.7)

pub invariant_of-self-then-is_withdrawn : goal.invariant_of-self-then-is_withdrawn
invariant_of-self-then-is_withdrawn c =
    let q : QueueValue = record { room = c.self.inside.room; delivered = c.self.inside.delivered; pending = c.self.inside.entries.items } in
    let e : EntryValue = c.leave-then-is_withdrawn.result in
    let es : List EntryValue = c.leave-then-is_withdrawn.new.entries.items in
    let rest : List Task = c.take_solved-done.new.solved.items in
    let same = the_first q.pending es c.index-first.result.now e c.index-first.ensures c.leave-then-is_withdrawn.ensures.entries in
    let fits : c.self.inside.waiting < 2 ^ 64 = search rules in
    let gone : (f : Task → ℕ) → sum_by f c.self.inside.solved.items ≡ sum_by f rest + finished_by f e =
    λ f. subst (λ (x : EntryValue). sum_by f c.self.inside.solved.items ≡ sum_by f rest + finished_by f x) same
    (c.take_solved-done.ensures.gone f) in
    let k = left_kept _ _ c.self.inside.waiting c.lower_places-self-inside.result c.self.inside.solved.items rest q e es
    c.self.invariant c.leave-then-is_withdrawn.ensures.entries fits c.lower_places-self-inside.ensures gone in (
      omega (arith, k.0, c.leave-then-is_withdrawn.ensures.capacity),
      k.1,
      k.2,
      k.3,
      k.4,
      k.5,
      omega (arith, k.6, c.take_solved-done.ensures.capacity),
      k.7,
    )

pub invariant_of-self-2 : goal.invariant_of-self-2
invariant_of-self-2 c =
    let q : QueueValue = record { room = c.self.inside.room; delivered = c.self.inside.delivered; pending = c.self.inside.entries.items } in
    let e : EntryValue = c.leave-2.result in
    let es : List EntryValue = c.leave-2.new.entries.items in
    let rest : List Task = c.take_solved-done.new.solved.items in
    let same = the_first q.pending es c.index-first.result.now e c.index-first.ensures c.leave-2.ensures.entries in
    let fits : c.self.inside.waiting < 2 ^ 64 = search rules in
    let gone : (f : Task → ℕ) → sum_by f c.self.inside.solved.items ≡ sum_by f rest + finished_by f e =
    λ f. subst (λ (x : EntryValue). sum_by f c.self.inside.solved.items ≡ sum_by f rest + finished_by f x) same
    (c.take_solved-done.ensures.gone f) in
    let k = left_kept _ _ c.self.inside.waiting c.lower_places-self-inside.result c.self.inside.solved.items rest q e es
    c.self.invariant c.leave-2.ensures.entries fits c.lower_places-self-inside.ensures gone in (
      omega (arith, k.0, c.leave-2.ensures.capacity),
      k.1,
      k.2,
      k.3,
      k.4,
      k.5,
      omega (arith, k.6, c.take_solved-done.ensures.capacity),
      k.7,
    )

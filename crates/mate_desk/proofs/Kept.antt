-- What a queue keeps where one of its entries changes, one more comes in, or the first leaves.
use Rattle.std.proofs.Common.{◌≡◌, ◌≢◌, ℕ, zero, suc, ◌+◌, ◌-◌, ◌<◌, ◌≤◌, nat_lt, nat_le, List, [], ◌∷◌, ◌++◌, length, set, Bool, true}
use Rattle.std.proofs.Common.{false, not, ◌&&◌, ◌||◌, ap, refl, sym, ◌∙◌, subst, arith, Some, None, slice_get, length-set, sum_by}
use Rattle.std.specs.List.{list_any}
use Rattle.std.proofs.lemmas.Bool.Decides.{nat_tests}
use Rattle.mate_jobs.specs.Jobs.{Task}
use Rattle.chess_notation.specs.Records.{problem_of}
use Rattle.mate_desk.specs.Content.{EntryValue, QueueValue, Phase, Waiting, Out, Finished, is_out, is_waiting}
use Rattle.mate_desk.specs.Content.{is_finished, waits, waits_as, has_ticket, has_task, is_out_with, lowest}
use Rattle.mate_desk.specs.Calls.{in_queue, into_phase, withdrawn, withdrawn_at, withdraw_refusal_of, change_at}
use Rattle.mate_desk.specs.declared.refusals.WithdrawRefusal.TheVariants as refused
use Rattle.mate_desk.specs.Laws.{Rises}
use Rattle.mate_desk.specs.inside.Keeping.{Marks, IsOutAt, task_of, finished_by, AreSolved}
use Rattle.mate_desk.proofs.Tests.{and_tells, and_holds}
use Rattle.mate_desk.proofs.Changes.{got_one, got_inside, got_set, change_set, rises_set, rises_lower}
use Rattle.mate_desk.proofs.Changes.{comes_in, ticket_own, waits_own, out_own, told, Told}
use Rattle.mate_desk.proofs.Waiting.{First, first_lowest}
use Rattle.mate_desk.proofs.OwnJobs.{own_job, solved_set, solved_more, solved_first, place_left}

-- how a queue is kept, with these capacities of its two lists, this word, and what was solved
abbrev pub IsKept : ℕ → ℕ → ℕ → List Task → QueueValue → Type 0
IsKept capacity places word solved q = (q.room ≤ capacity) × (q.room ≤ 64) × (length q.pending ≤ q.room)
    × (q.delivered + length q.pending < 18446744073709551616) × Rises 0 q.pending × Marks word q.pending
    × (q.room ≤ places) × AreSolved solved q.pending

-- one entry changed under its ticket
pub kept_set : (capacity places word new : ℕ) (solved done : List Task) (q : QueueValue) (n : ℕ) (e y : EntryValue)
    → IsKept capacity places word solved q → slice_get q.pending n ≡ Some e → y.ticket ≡ e.ticket
    → Marks new (set q.pending n y) → AreSolved done (set q.pending n y)
    → IsKept capacity places new done (record { room = q.room; delivered = q.delivered; pending = set q.pending n y })
kept_set capacity places word new solved done q n e y k g t m s =
    let long = length-set q.pending n y in
    (k.0, k.1, omega (arith, long, k.2), omega (arith, long, k.3), rises_set 0 q.pending n e y k.4 g t, m, k.6, s)

never : (a : Bool) → (a && false) ≡ false
never true = refl
never false = refl

or_last : (a : Bool) → (a || true) ≡ true
or_last true = refl
or_last false = refl

pub any_got : (test : EntryValue → Bool) (es : List EntryValue) (n : ℕ) (e : EntryValue) → slice_get es n ≡ Some e
    → test e ≡ true → list_any test es ≡ true
any_got test [] n e g t = cc
any_got test (x ∷ xs) zero e g t = let here : test x ≡ true = ap test (got_one x e g) ∙ t in rw here refl
any_got test (x ∷ xs) (suc n) e g t = ap (λ b. test x || b) (any_got test xs n e g t) ∙ or_last (test x)

-- the job of an entry that waits
pub record Taken (q : QueueValue) (task : Task) (n : ℕ) (y : EntryValue) : Type 0 where
  pub lowest : lowest q.pending ≡ Some task.ticket
  pub out : record { room = q.room; delivered = q.delivered; pending = set q.pending n y } ≡ in_queue (into_phase (waits_as task) Out) q
  pub by_ticket : record { room = q.room; delivered = q.delivered; pending = set q.pending n y }
      ≡ in_queue (into_phase (has_ticket task.ticket) Out) q
  pub waited : list_any (waits_as task) q.pending ≡ true
  pub given : list_any (is_out_with task) (set q.pending n y) ≡ true

pub taken : (q : QueueValue) (task : Task) (n : ℕ) (e y : EntryValue) → Rises 0 q.pending → First q.pending n
    → slice_get q.pending n ≡ Some e → has_task task e ≡ true
    → y ≡ record { ticket = e.ticket; asked = e.asked; phase = Out; withdrawn = e.withdrawn } → Taken q task n y
taken q task n e y r first g t is =
    let found = first_lowest q.pending n e r first g in
    let said : Told task e = told task e t in
    let w : waits_as task e ≡ true = and_holds _ _ found.0 t in
    let o : is_out_with task y ≡ true = rw is t in
    record {
      lowest = found.1 ∙ ap Some said.ticket;
      out = comes_in q n e y (waits_as task) Out r g w
          (subst (λ k. (x : EntryValue) → x.ticket ≢ k → waits_as task x ≡ false) (sym said.ticket) (waits_own task)) is;
      by_ticket = comes_in q n e y (has_ticket task.ticket) Out r g said.named (subst (λ k. (x : EntryValue) → x.ticket ≢ k
          → has_ticket task.ticket x ≡ false) (sym said.ticket) (ticket_own task.ticket)) is;
      waited = any_got (waits_as task) q.pending n e g w;
      given = any_got (is_out_with task) (set q.pending n y) n y (got_set n q.pending e y g) o;
    }

-- the entry at a place that is out with a job
pub record Returned (q : QueueValue) (task : Task) (phase : Phase) (n : ℕ) (y : EntryValue) : Type 0 where
  pub back : record { room = q.room; delivered = q.delivered; pending = set q.pending n y } ≡ in_queue (into_phase (is_out_with task) phase) q
  pub by_ticket : record { room = q.room; delivered = q.delivered; pending = set q.pending n y }
      ≡ in_queue (into_phase (has_ticket task.ticket) phase) q

pub returned : (q : QueueValue) (task : Task) (phase : Phase) (n : ℕ) (e y : EntryValue) → Rises 0 q.pending
    → IsOutAt task n q.pending → slice_get q.pending n ≡ Some e
    → y ≡ record { ticket = e.ticket; asked = e.asked; phase = phase; withdrawn = e.withdrawn } → Returned q task phase n y
returned q task phase n e y r at g is =
    let same : at.entry ≡ e = got_one at.entry e (sym at.there ∙ g) in
    let o : is_out_with task e ≡ true = ap (is_out_with task) (sym same) ∙ at.out in
    let said : Told task e = told task e (and_tells (is_out e.phase) _ o).1 in
    record {
      back = comes_in q n e y (is_out_with task) phase r g o
          (subst (λ k. (x : EntryValue) → x.ticket ≢ k → is_out_with task x ≡ false) (sym said.ticket) (out_own task)) is;
      by_ticket = comes_in q n e y (has_ticket task.ticket) phase r g said.named (subst (λ k. (x : EntryValue) → x.ticket ≢ k
          → has_ticket task.ticket x ≡ false) (sym said.ticket) (ticket_own task.ticket)) is;
    }

-- An entry that is out does not wait.
pub out_waits : (e : EntryValue) → is_out e.phase ≡ true → waits e ≡ false
out_waits e o = (elim e.phase as (λ (p : Phase). is_out p ≡ true → (is_waiting p && not e.withdrawn) ≡ false) [
  | Waiting ↦ λ o. cc
  | Out ↦ λ o. refl
  | Finished ↦ λ o. refl
]) o

pub out_at_waits : (task : Task) (n : ℕ) (es : List EntryValue) (e : EntryValue) → IsOutAt task n es → slice_get es n ≡ Some e → waits e ≡ false
out_at_waits task n es e at g =
    let same : at.entry ≡ e = got_one at.entry e (sym at.there ∙ g) in
    out_waits e (ap (λ (x : EntryValue). is_out x.phase) (sym same) ∙ (and_tells (is_out at.entry.phase) _ at.out).0)

-- An entry that waits or is out is not finished.
waiting_unfinished : (e : EntryValue) → waits e ≡ true → is_finished e.phase ≡ false
waiting_unfinished e w = (elim e.phase as (λ (p : Phase). (is_waiting p && not e.withdrawn) ≡ true → is_finished p ≡ false) [
  | Waiting ↦ λ w. refl
  | Out ↦ λ w. refl
  | Finished ↦ λ w. cc
]) w

out_unfinished : (e : EntryValue) → is_out e.phase ≡ true → is_finished e.phase ≡ false
out_unfinished e o = (elim e.phase as (λ (p : Phase). is_out p ≡ true → is_finished p ≡ false) [
  | Waiting ↦ λ o. refl
  | Out ↦ λ o. refl
  | Finished ↦ λ o. cc
]) o

out_at_unfinished : (task : Task) (n : ℕ) (es : List EntryValue) (e : EntryValue) → IsOutAt task n es
    → slice_get es n ≡ Some e → is_finished e.phase ≡ false
out_at_unfinished task n es e at g =
    let same : at.entry ≡ e = got_one at.entry e (sym at.there ∙ g) in
    out_unfinished e (ap (λ (x : EntryValue). is_out x.phase) (sym same) ∙ (and_tells (is_out at.entry.phase) _ at.out).0)

none_counted : (e y : EntryValue) → is_finished e.phase ≡ false → is_finished y.phase ≡ false → (f : Task → ℕ) → finished_by f y ≡ finished_by f e
none_counted e y before after f = rw (before, after) refl

-- what was solved, where an entry comes into another phase, or is withdrawn
pub solved_taken : (solved : List Task) (es : List EntryValue) (n : ℕ) (e y : EntryValue) → AreSolved solved es
    → slice_get es n ≡ Some e → waits e ≡ true → is_finished y.phase ≡ false → AreSolved solved (set es n y)
solved_taken solved es n e y s there w after = solved_set solved es n e y s there (none_counted e y (waiting_unfinished e w) after)

pub solved_back : (solved : List Task) (task : Task) (es : List EntryValue) (n : ℕ) (e y : EntryValue) → AreSolved solved es
    → IsOutAt task n es → slice_get es n ≡ Some e → is_finished y.phase ≡ false → AreSolved solved (set es n y)
solved_back solved task es n e y s at there after =
    solved_set solved es n e y s there (none_counted e y (out_at_unfinished task n es e at there) after)

pub solved_done : (solved : List Task) (task : Task) (es : List EntryValue) (n : ℕ) (e y : EntryValue) → AreSolved solved es
    → IsOutAt task n es → slice_get es n ≡ Some e
    → y ≡ record { ticket = e.ticket; asked = e.asked; phase = Finished; withdrawn = e.withdrawn } → AreSolved (solved ++ task ∷ []) (set es n y)
solved_done solved task es n e y s at there is =
    let same : at.entry ≡ e = got_one at.entry e (sym at.there ∙ there) in
    let has : has_task task e ≡ true = (and_tells (is_out e.phase) _ (ap (is_out_with task) (sym same) ∙ at.out)).1 in
    let own : task ≡ task_of e = own_job task e has (ap (λ (x : EntryValue). problem_of x.asked) (sym same) ∙ at.same) in
    solved_more solved es n e y task s there (out_at_unfinished task n es e at there) (rw is refl) (own ∙ rw is refl)

pub place_for : (solved : List Task) (task : Task) (es : List EntryValue) (n : ℕ) → AreSolved solved es
    → IsOutAt task n es → length solved < length es
place_for solved task es n s at = place_left solved es n at.entry s at.there (out_at_unfinished task n es at.entry at at.there)

pub solved_withdrawn : (solved : List Task) (es : List EntryValue) (n : ℕ) (e y : EntryValue) → AreSolved solved es
    → slice_get es n ≡ Some e → y ≡ withdrawn e → AreSolved solved (set es n y)
solved_withdrawn solved es n e y s there is = solved_set solved es n e y s there (λ f. ap (finished_by f) is)

pub out_inside : (task : Task) (n : ℕ) (es : List EntryValue) → IsOutAt task n es → n < length es
out_inside task n es at = got_inside es n at.entry at.there

-- the n-th accepted record withdrawn
pub record Marked (q : QueueValue) (n : ℕ) (y : EntryValue) : Type 0 where
  pub refusal : withdraw_refusal_of (Some q) n ≡ None
  pub withdrawn : record { room = q.room; delivered = q.delivered; pending = set q.pending (n - q.delivered) y } ≡ withdrawn_at n q

pub marked : (q : QueueValue) (n : ℕ) (e y : EntryValue) → n < q.delivered + length q.pending → q.delivered ≤ n
    → slice_get q.pending (n - q.delivered) ≡ Some e → e.withdrawn ≡ false
    → y ≡ withdrawn e → Marked q n y
marked q n e y less from g free is =
    let accepted : nat_le (q.delivered + length q.pending) n ≡ false = grind (arith, nat_tests, less) in
    let pending : nat_lt n q.delivered ≡ false = grind (arith, nat_tests, from) in
    let changed : change_at (n - q.delivered) withdrawn q.pending ≡ set q.pending (n - q.delivered) (withdrawn e) =
    change_set (n - q.delivered) withdrawn q.pending e g in
    record {
      refusal = rw (accepted, pending, g, free) refl;
      withdrawn = rw pending (ap (λ (es : List EntryValue). record { room = q.room; delivered = q.delivered; pending = es })
          (ap (set q.pending (n - q.delivered)) is ∙ sym changed));
    }

-- why it is not
pub refused_twice : (q : QueueValue) (n : ℕ) (e : EntryValue) → n < q.delivered + length q.pending → q.delivered ≤ n
    → slice_get q.pending (n - q.delivered) ≡ Some e → e.withdrawn ≡ true
    → withdraw_refusal_of (Some q) n ≡ Some refused.Withdrawn
refused_twice q n e less from g gone =
    let accepted : nat_le (q.delivered + length q.pending) n ≡ false = grind (arith, nat_tests, less) in
    let pending : nat_lt n q.delivered ≡ false = grind (arith, nat_tests, from) in
    rw (accepted, pending, g, gone) refl

-- the first entry gone
pub kept_rest : (capacity places word new : ℕ) (solved rest : List Task) (q : QueueValue) (e : EntryValue) (es : List EntryValue)
    → IsKept capacity places word solved q → q.pending ≡ e ∷ es → Marks new es
    → ((f : Task → ℕ) → sum_by f solved ≡ sum_by f rest + finished_by f e)
    → IsKept capacity places new rest (record { room = q.room; delivered = q.delivered + 1; pending = es })
kept_rest capacity places word new solved rest q e es k is m gone =
    let long : length q.pending ≡ suc (length es) = ap length is in
    let r : Rises 0 (e ∷ es) = subst (Rises 0) is k.4 in (
      k.0,
      k.1,
      omega (arith, long, k.2),
      omega (arith, long, k.3),
      rises_lower (e.ticket + 1) 0 es r.1 (omega arith),
      m,
      k.6,
      λ f. omega (arith, gone f, solved_first f solved e es (subst (AreSolved solved) is k.7)),
    )

-- A withdrawn entry does not wait.
pub withdrawn_waits : (e : EntryValue) → waits (withdrawn e) ≡ false
withdrawn_waits e = never (is_waiting e.phase)

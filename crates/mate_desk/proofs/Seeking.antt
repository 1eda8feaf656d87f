-- Where in a queue a record is out with a job: at the first ticket that is not below the job's, or nowhere.
use Rattle.std.proofs.Common.{◌≡◌, ◌≢◌, ℕ, zero, suc, ◌+◌, ◌<◌, ◌≤◌, nat_lt, List, [], ◌∷◌, length}
use Rattle.std.proofs.Common.{get_or, Bool, true, false, refl, arith, Some, slice_get}
use Rattle.std.specs.List.{list_any}
use Rattle.std.specs.List.Sorted.{IsPartitionedBy}
use Rattle.std.proofs.lemmas.Bool.Decides.{nat_tests}
use Rattle.mate_jobs.specs.Jobs.{Task}
use Rattle.mate_desk.specs.Content.{EntryValue, is_out_with}
use Rattle.mate_desk.specs.Laws.{Rises}
use Rattle.mate_desk.proofs.Tests.{or_fails}
use Rattle.mate_desk.proofs.Changes.{out_own}

order_from : (low : ℕ) (es : List EntryValue) (j : ℕ) (d : EntryValue) → Rises low es → j < length es → low ≤ (get_or es j d).ticket
order_from low [] j d r h = absurd (omega arith)
order_from low (x ∷ xs) zero d r h = r.0
order_from low (x ∷ xs) (suc j) d r h = omega (arith, order_from (x.ticket + 1) xs j d r.1 (omega arith), r.0)

in_order : (low : ℕ) (es : List EntryValue) (i j : ℕ) (d : EntryValue) → Rises low es → i ≤ j → j < length es
    → (get_or es i d).ticket ≤ (get_or es j d).ticket
in_order low [] i j d r h l = absurd (omega arith)
in_order low (x ∷ xs) zero zero d r h l = omega arith
in_order low (x ∷ xs) zero (suc j) d r h l = omega (arith, order_from (x.ticket + 1) xs j d r.1 (omega arith))
in_order low (x ∷ xs) (suc i) zero d r h l = absurd (omega arith)
in_order low (x ∷ xs) (suc i) (suc j) d r h l = in_order (x.ticket + 1) xs i j d r.1 (omega arith) (omega arith)

abbrev pub is_before : ℕ → EntryValue → Bool
is_before ticket e = nat_lt e.ticket ticket

-- Rising tickets stand below a ticket first, and then no more.
pub parted : (ticket : ℕ) (es : List EntryValue) → Rises 0 es → IsPartitionedBy (is_before ticket) es
parted ticket es r i j d h l t =
    let order = in_order 0 es i j d r h l in
    grind (arith, nat_tests, order, t)

none_above : (low : ℕ) (task : Task) (es : List EntryValue) → Rises low es → task.ticket < low → list_any (is_out_with task) es ≡ false
none_above low task [] r h = refl
none_above low task (x ∷ xs) r h =
    or_fails _ _ (out_own task x (λ e. omega (arith, e, r.0, h))) (none_above (x.ticket + 1) task xs r.1 (omega (arith, r.0, h)))

pub none_out : (low : ℕ) (task : Task) (es : List EntryValue) (n : ℕ) → Rises low es
    → ((k : ℕ) (d : EntryValue) → k < n → is_before task.ticket (get_or es k d) ≡ true)
    → ((k : ℕ) (d : EntryValue) → n ≤ k → k < length es → is_before task.ticket (get_or es k d) ≡ false)
    → ((e : EntryValue) → slice_get es n ≡ Some e → is_out_with task e ≡ false) → list_any (is_out_with task) es ≡ false
none_out low task [] n r before behind here = refl
none_out low task (x ∷ xs) zero r before behind here =
    let reached : nat_lt x.ticket task.ticket ≡ false = behind 0 x (omega arith) (omega arith) in
    or_fails _ _ (here x refl) (none_above (x.ticket + 1) task xs r.1 (grind (arith, nat_tests, reached)))
none_out low task (x ∷ xs) (suc n) r before behind here =
    let below : nat_lt x.ticket task.ticket ≡ true = before 0 x (omega arith) in
    let other : x.ticket ≢ task.ticket = grind (arith, nat_tests, below) in
    or_fails _ _ (out_own task x other) (none_out (x.ticket + 1) task xs n r.1 (λ k d h. before (suc k) d (omega (arith, h)))
    (λ k d h l. behind (suc k) d (omega (arith, h)) (omega (arith, l))) here)

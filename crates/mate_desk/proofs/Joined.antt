-- The entries of several queues, one queue after the other.
use Rattle.std.proofs.Common.{◌≡◌, ℕ, zero, suc, ◌+◌, ◌<◌, List, [], ◌∷◌, ◌++◌, Bool, true, false, ◌||◌, if◌then◌else◌, ap, refl, sym}
use Rattle.std.proofs.Common.{◌∙◌, arith, None, Some, Option, flat_map, take, slice_get, nat_lt, add-one, append_assoc, append-nil}
use Rattle.std.specs.List.{list_any}
use Rattle.std.proofs.lemmas.Bool.Decides.{nat_tests}
use Rattle.std.proofs.lemmas.List.Folds.{list_any-append}
use Rattle.mate_desk.specs.Content.{EntryValue, QueueValue, waits, lower, lowest}
use Rattle.mate_desk.specs.inside.Keeping.{is_lower}
use Rattle.mate_desk.proofs.Tests.{or_fails}
use Rattle.mate_desk.proofs.Changes.{got_one}

abbrev pub joined : List QueueValue → List EntryValue
joined queues = flat_map (λ q. q.pending) queues

pub joined_more : (queues : List QueueValue) (n : ℕ) (q : QueueValue) → slice_get queues n ≡ Some q
    → joined (take (n + 1) queues) ≡ joined (take n queues) ++ q.pending
joined_more [] n q g = cc
joined_more (r ∷ rs) zero q g = ap (λ (k : QueueValue). k.pending ++ []) (got_one r q g) ∙ append-nil q.pending
joined_more (r ∷ rs) (suc n) q g = rw add-one (ap (λ es. r.pending ++ es) (rw add-one at (joined_more rs n q g))
    ∙ sym (append_assoc r.pending (joined (take n rs)) q.pending))

pub any_more : (test : EntryValue → Bool) (queues : List QueueValue) (n : ℕ) (q : QueueValue) → slice_get queues n ≡ Some q
    → list_any test (joined (take n queues)) ≡ false → list_any test q.pending ≡ false → list_any test (joined (take (n + 1) queues)) ≡ false
any_more test queues n q g none here = ap (list_any test) (joined_more queues n q g)
    ∙ (list_any-append test (joined (take n queues)) q.pending ∙ or_fails _ _ none here)

or_last : (a : Bool) → (a || true) ≡ true
or_last true = refl
or_last false = refl

pub any_in : (test : EntryValue → Bool) (queues : List QueueValue) (n : ℕ) (q : QueueValue) → slice_get queues n ≡ Some q
    → list_any test q.pending ≡ true → list_any test (joined queues) ≡ true
any_in test [] n q g t = cc
any_in test (r ∷ rs) zero q g t =
    let here : list_any test r.pending ≡ true = ap (λ (k : QueueValue). list_any test k.pending) (got_one r q g) ∙ t in
    list_any-append test r.pending (joined rs) ∙ rw here refl
any_in test (r ∷ rs) (suc n) q g t = list_any-append test r.pending (joined rs)
    ∙ (ap (λ b. list_any test r.pending || b) (any_in test rs n q g t) ∙ or_last (list_any test r.pending))

-- the lower of two
least : Option ℕ → Option ℕ → Option ℕ
least None o = o
least (Some t) o = lower t o

least_none : (o : Option ℕ) → least o None ≡ o
unfolding least
least_none None = refl
least_none (Some t) = refl

lower_three : (t u v : ℕ) → (if nat_lt v (if nat_lt u t then u else t) then v else (if nat_lt u t then u else t))
    ≡ (if nat_lt (if nat_lt v u then v else u) t then (if nat_lt v u then v else u) else t)
lower_three t u v = (elim (nat_lt u t) as (λ b. nat_lt u t ≡ b → (if nat_lt v (if b then u else t) then v
    else (if b then u else t)) ≡ (if nat_lt (if nat_lt v u then v else u) t then (if nat_lt v u then v else u) else t)) [
      | true ↦ λ ut. (elim (nat_lt v u) as (λ b. nat_lt v u ≡ b
          → (if b then v else u) ≡ (if nat_lt (if b then v else u) t then (if b then v else u) else t)) [
            | true ↦ λ vu. let k : nat_lt v t ≡ true = grind (arith, nat_tests) in rw k refl
            | false ↦ λ vu. rw ut refl
          ]) refl
      | false ↦ λ ut. (elim (nat_lt v u) as (λ b. nat_lt v u ≡ b
          → (if nat_lt v t then v else t) ≡ (if nat_lt (if b then v else u) t then (if b then v else u) else t)) [
            | true ↦ λ vu. refl
            | false ↦ λ vu. let k : nat_lt v t ≡ false = grind (arith, nat_tests) in rw (k, ut) refl
          ]) refl
    ]) refl

lower_least : (t : ℕ) (o p : Option ℕ) → least (lower t o) p ≡ lower t (least o p)
unfolding least
lower_least t None p = refl
lower_least t (Some u) None = refl
lower_least t (Some u) (Some v) = ap Some (lower_three t u v)

lowest_append : (es fs : List EntryValue) → lowest (es ++ fs) ≡ least (lowest es) (lowest fs)
unfolding least
lowest_append [] fs = refl
lowest_append (e ∷ es) fs = elim (waits e) as (λ b. (if b then lower e.ticket (lowest (es ++ fs)) else lowest (es ++ fs))
    ≡ least (if b then lower e.ticket (lowest es) else lowest es) (lowest fs)) [
      | true ↦ ap (lower e.ticket) (lowest_append es fs) ∙ sym (lower_least e.ticket (lowest es) (lowest fs))
      | false ↦ lowest_append es fs
    ]

least_is : (o p : Option ℕ) → least o p ≡ (if is_lower p o then p else o)
unfolding least
least_is None None = refl
least_is None (Some t) = refl
least_is (Some t) None = refl
least_is (Some t) (Some u) = elim (nat_lt u t) as (λ b. Some (if b then u else t) ≡ (if b then Some u else Some t)) [ true ↦ refl | false ↦ refl ]

-- the lowest ticket that waits, with a queue more looked at
pub lowest_more : (queues : List QueueValue) (n : ℕ) (q : QueueValue) (o : Option ℕ)
    → slice_get queues n ≡ Some q → lowest (joined (take n queues)) ≡ o
    → lowest (joined (take (n + 1) queues)) ≡ (if is_lower (lowest q.pending) o then lowest q.pending else o)
lowest_more queues n q o g i =
    ap lowest (joined_more queues n q g) ∙ (lowest_append (joined (take n queues)) q.pending
    ∙ (ap (λ p. least p (lowest q.pending)) i ∙ least_is o (lowest q.pending)))

-- where the lowest ticket so far stands
abbrev pub StandsAt : List QueueValue → ℕ → ℕ → Option ℕ → Type 0
StandsAt queues n s None = Unit {0}
StandsAt queues n s (Some t) = (s < n) × ((q : QueueValue) → slice_get queues s ≡ Some q → lowest q.pending ≡ Some t)

pub stands_here : (queues : List QueueValue) (n : ℕ) (q : QueueValue) (o : Option ℕ) → slice_get queues n ≡ Some q
    → lowest q.pending ≡ o → StandsAt queues (n + 1) n o
stands_here queues n q None g e = tt
stands_here queues n q (Some t) g e = (omega arith, λ r h. ap (λ (k : QueueValue). lowest k.pending) (got_one r q (sym h ∙ g)) ∙ e)

pub still_stands : (queues : List QueueValue) (n s : ℕ) (o : Option ℕ) → StandsAt queues n s o → StandsAt queues (n + 1) s o
still_stands queues n s None h = tt
still_stands queues n s (Some t) h = (omega (arith, h.0), h.1)

-- The order of jobs in hand: what a place's number does when a job comes, and when one leaves.
use Rattle.std.proofs.Common.{◌≡◌, ◌≢◌, inl, inr, ℕ, zero, suc, ◌+◌, ◌-◌, ◌<◌, ◌≤◌, ◌==◌, nat_lt, Bool, true, false, cond}
use Rattle.std.proofs.Common.{List, [], ◌∷◌, ◌++◌, map, length, get_or, set, remove, count_by, ap, refl, sym, subst, ◌∙◌, arith}
use Rattle.std.proofs.lemmas.Bool.Decides.{nat_tests}
use Rattle.std.proofs.lemmas.List.{map-append, length-map, length-set, ext_get_or, get_or-map, get_or_append_left, get_or_push}
use Rattle.std.proofs.lemmas.List.{get_or_default, get_or-set_same, get_or-set_other}
use Rattle.std.proofs.lemmas.List.Sums.{sum_by-append, sum_by-cons, sum_by-set, sum_by-remove, get_or-le-sum_by}
use Rattle.std.proofs.lemmas.Bool.{cases_eq}
use Rattle.mate_jobs.specs.Jobs.{Task}
use Rattle.mate_desk.specs.inside.HeldJobs.{HandValue, job_at, jobs_in, AreNamedOnce}
use Rattle.mate_desk.proofs.Distinct.{one_if}

named_here : (n : ℕ) → one_if (n == n) ≡ 1
named_here n = let t : (n == n) ≡ true = grind (arith, nat_tests) in rw t refl

-- What stands in the order is counted there.
counted : (order : List ℕ) (k place : ℕ) → k < length order → get_or order k 0 ≡ place → 1 ≤ count_by (λ n. n == place) order
counted order k place lt is =
    let here : one_if (get_or order k 0 == place) ≡ 1 = rw is (named_here place) in
    omega (arith, here, get_or-le-sum_by (λ n. cond (n == place) 1 0) order k 0 lt)

-- One place more, which is named last.
more : (place count : ℕ) → one_if (nat_lt place count) + one_if (count == place) ≡ one_if (nat_lt place (count + 1))
more place count = (elim (nat_lt place count)
    as (λ a. nat_lt place count ≡ a → one_if a + one_if (count == place) ≡ one_if (nat_lt place (count + 1))) [
      | true ↦ λ t. (let e : (count == place) ≡ false = grind (arith, nat_tests, t) in
          let f : nat_lt place (count + 1) ≡ true = grind (arith, nat_tests, t) in rw (e, f) refl)
      | false ↦ λ t. (elim (count == place) as (λ b. (count == place) ≡ b → one_if false + one_if b ≡ one_if (nat_lt place (count + 1))) [
        | true ↦ λ e. (let f : nat_lt place (count + 1) ≡ true = grind (arith, nat_tests, e) in rw f refl)
        | false ↦ λ e. (let f : nat_lt place (count + 1) ≡ false = grind (arith, nat_tests, t, e) in rw f refl)
      ]) refl
    ]) refl

pub named_more : (order : List ℕ) (count : ℕ) → AreNamedOnce count order → AreNamedOnce (count + 1) (order ++ count ∷ [])
named_more order count h place =
    omega (
      arith,
      sum_by-append (λ n. cond (n == place) 1 0) order (count ∷ []),
      sum_by-cons (λ n. cond (n == place) 1 0) count [],
      h place,
      more place count,
    )

-- What is named is below the count.
below : (place count : ℕ) → 1 ≤ one_if (nat_lt place count) → place < count
below place count = (elim (nat_lt place count) as (λ a. nat_lt place count ≡ a → 1 ≤ one_if a → place < count) [
  | true ↦ λ t h. grind (arith, nat_tests, t)
  | false ↦ λ t h. omega (arith, h)
]) refl

named_below : (order : List ℕ) (count k : ℕ) → AreNamedOnce count order → k < length order → get_or order k 0 < count
named_below order count k h lt = below (get_or order k 0) count (omega (arith, counted order k (get_or order k 0) lt refl, h (get_or order k 0)))

same_jobs : (f g : ℕ → Task) (ms ns : List ℕ) → length ms ≡ length ns
    → ((k : ℕ) → k < length ms → f (get_or ms k 0) ≡ g (get_or ns k 0)) → map f ms ≡ map g ns
same_jobs f g ms ns long h = ext_get_or (f 0) (map f ms) (map g ns) (length-map ms f ∙ (long ∙ sym (length-map ns g)))
    (λ k lt. let less : k < length ms = omega (arith, lt, length-map ms f) in
    get_or-map f ms k 0 (f 0) less ∙ (h k less ∙ sym (get_or-map g ns k 0 (f 0) (omega (arith, less, long)))))

-- One job more, in a place behind the others.
pub jobs_more : (places : List Task) (order : List ℕ) (job : Task) (count : ℕ) → length places ≡ count → AreNamedOnce count order
    → jobs_in (places ++ job ∷ []) (order ++ count ∷ []) ≡ jobs_in places order ++ job ∷ []
jobs_more places order job count long h =
    let here : job_at (places ++ job ∷ []) count ≡ job = get_or_push places job _ count long in
    let others : jobs_in (places ++ job ∷ []) order ≡ jobs_in places order =
    same_jobs (job_at (places ++ job ∷ [])) (job_at places) order order refl
    (λ k lt. get_or_append_left places (job ∷ []) _ (get_or order k 0) (omega (arith, named_below order count k h lt, long))) in
    map-append (job_at (places ++ job ∷ [])) order (count ∷ []) ∙ rw (here, others) refl

jobs_remove : (f : ℕ → Task) (ns : List ℕ) (i : ℕ) → map f (remove ns i) ≡ remove (map f ns) i
jobs_remove f [] zero = refl
jobs_remove f [] (suc i) = refl
jobs_remove f (n ∷ ns) zero = refl
jobs_remove f (n ∷ ns) (suc i) = ap (λ (ts : List Task). f n ∷ ts) (jobs_remove f ns i)

-- One place less, the last: what names it once more is no more in the order.
named_less : (order : List ℕ) (last : ℕ)
    → ((place : ℕ) → count_by (λ n. n == place) order + one_if (last == place) ≡ one_if (nat_lt place (last + 1))) → AreNamedOnce last order
named_less order last h place = omega (arith, h place, more place last)

-- What is named where the name of a place goes.
named_removed : (order left : List ℕ) (i place count : ℕ) → AreNamedOnce count order → i < length order → left ≡ remove order i
    → place ≡ get_or order i place → (x : ℕ) → count_by (λ n. n == x) left + one_if (place == x) ≡ one_if (nat_lt x count)
named_removed order left i place count h lt is at x =
    let here : one_if (get_or order i place == x) ≡ one_if (place == x) = ap (λ n. one_if (n == x)) (sym at) in
    let rest : count_by (λ n. n == x) left ≡ count_by (λ n. n == x) (remove order i) = ap (count_by (λ n. n == x)) is in
    omega (arith, sum_by-remove (λ n. cond (n == x) 1 0) order i place lt, here, rest, h x)

at_most_one : (b : Bool) → one_if b ≤ 1
at_most_one true = omega arith
at_most_one false = omega arith

-- It is free then, and was one of those there are.
now_free : (left : List ℕ) (place count : ℕ)
    → ((x : ℕ) → count_by (λ n. n == x) left + one_if (place == x) ≡ one_if (nat_lt x count))
    → (count_by (λ n. n == place) left ≡ 0) × (place < count)
now_free left place count h =
    (omega (arith, h place, named_here place, at_most_one (nat_lt place count)), below place count (omega (arith, h place, named_here place)))

-- The last place is still named where it was another.
last_named : (left : List ℕ) (place last : ℕ)
    → ((x : ℕ) → count_by (λ n. n == x) left + one_if (place == x) ≡ one_if (nat_lt x (last + 1))) → place ≢ last
    → 0 < count_by (λ n. n == last) left
last_named left place last h o =
    let e : (place == last) ≡ false = grind (arith, nat_tests, o) in
    let f : nat_lt last (last + 1) ≡ true = grind (arith, nat_tests) in
    let a : one_if (place == last) ≡ 0 = rw e refl in
    let b : one_if (nat_lt last (last + 1)) ≡ 1 = rw f refl in
    omega (arith, h last, a, b)

-- The name of the last place is changed to that of the free one.
named_moved : (left : List ℕ) (j place last : ℕ)
    → ((x : ℕ) → count_by (λ n. n == x) left + one_if (place == x) ≡ one_if (nat_lt x (last + 1)))
    → j < length left → get_or left j 0 ≡ last → AreNamedOnce last (set left j place)
named_moved left j place last h lt is = named_less (set left j place) last
    (λ x. (let here : one_if (get_or left j 0 == x) ≡ one_if (last == x) = ap (λ n. one_if (n == x)) is in
    omega (arith, sum_by-set (λ n. cond (n == x) 1 0) left j place 0 lt, here, h x)))

-- Of so many jobs one left its place to the last, and the others stay in theirs.
abbrev pub IsFilled : List Task → List Task → ℕ → ℕ → Type 0
IsFilled old new place count = ((d : Task) → place + 1 < count → get_or new place d ≡ get_or old (count - 1) d)
    × ((k : ℕ) (d : Task) → k ≢ place → k + 1 < count → get_or new k d ≡ get_or old k d)

-- Where a place isn't named, what is named is another.
other : (order : List ℕ) (place k : ℕ) → count_by (λ n. n == place) order ≡ 0 → k < length order → get_or order k 0 ≢ place
other order place k none lt is = omega (arith, none, counted order k place lt is)

-- The job that left had the last place.
jobs_left : (old new : List Task) (left : List ℕ) (place last : ℕ) → AreNamedOnce last left → count_by (λ n. n == place) left ≡ 0
    → IsFilled old new place (last + 1) → jobs_in new left ≡ jobs_in old left
jobs_left old new left place last h free filled = same_jobs (job_at new) (job_at old) left left refl
    (λ k lt. filled.1 (get_or left k 0) _ (other left place k free lt) (omega (arith, named_below left last k h lt)))

-- It had another, where the last one goes, whose name is changed.
jobs_moved : (old new : List Task) (left : List ℕ) (j place last : ℕ) → AreNamedOnce last (set left j place)
    → count_by (λ n. n == place) left ≡ 0 → IsFilled old new place (last + 1) → j < length left → get_or left j 0 ≡ last → place < last
    → jobs_in new (set left j place) ≡ jobs_in old left
jobs_moved old new left j place last h free filled inside is lt =
    let long : length (set left j place) ≡ length left = length-set left j place in
    let back : last + 1 - 1 ≡ last = omega arith in
    same_jobs (job_at new) (job_at old) (set left j place) left long (λ k less. (elim (cases_eq k j)
    as (λ b. job_at new (get_or (set left j place) k 0) ≡ job_at old (get_or left k 0)) [
      | inl e ↦ rw (e, get_or-set_same left j place 0 inside, is) (filled.0 _ (omega (arith, lt)) ∙ ap (job_at old) back)
      | inr o ↦ (let same : get_or (set left j place) k 0 ≡ get_or left k 0 = get_or-set_other left j k place 0 o in
          let low : get_or (set left j place) k 0 < last = named_below (set left j place) last k h less in
          rw same (filled.1 (get_or left k 0) _ (other left place k free (omega (arith, less, long))) (omega (arith, low, same))))
    ]))

-- An index of a job is one of the order.
pub index_there : (h : HandValue) (jobs : List Task) (order : List ℕ) (room i : ℕ) → record { jobs = jobs_in jobs order; room = room } ≡ h
    → i < length h.jobs → i < length order
index_there h jobs order room i seen lt = omega (arith, lt, ap (λ (v : HandValue). length v.jobs) seen, length-map order (job_at jobs))

-- The job that leaves is in a place that there is.
pub place_below : (order : List ℕ) (i place count : ℕ) → AreNamedOnce count order → i < length order → place ≡ get_or order i place → place < count
place_below order i place count h lt at =
    let same : get_or order i place ≡ get_or order i 0 = get_or_default order i place 0 lt in
    omega (arith, named_below order count i h lt, at, same)

-- It is the one that the order has there.
pub job_taken : (jobs : List Task) (order : List ℕ) (i place : ℕ) (job : Task) → i < length order → place ≡ get_or order i place
    → place < length jobs → job ≡ get_or jobs place job → job ≡ get_or (jobs_in jobs order) i job
job_taken jobs order i place job lt at low is =
    is ∙ (get_or_default jobs place job _ low ∙ (ap (job_at jobs) at ∙ sym (get_or-map (job_at jobs) order i place job lt)))

-- What is named where one place of so many is free.
abbrev AreNamedBut : ℕ → ℕ → List ℕ → Type 0
AreNamedBut place count left = (x : ℕ) → count_by (λ n. n == x) left + one_if (place == x) ≡ one_if (nat_lt x count)

named_but : (order left : List ℕ) (i place count : ℕ) → AreNamedOnce count order → i < length order → left ≡ remove order i
    → place ≡ get_or order i place → AreNamedBut place (count - 1 + 1) left
named_but order left i place count h lt is at =
    let one : count ≡ count - 1 + 1 = omega (arith, place_below order i place count h lt at) in
    named_removed order left i place (count - 1 + 1) (subst (λ n. AreNamedOnce n order) one h) lt is at

-- The last place is named in what is left where the job of another leaves.
pub last_stands : (order left : List ℕ) (i place count : ℕ) → AreNamedOnce count order → i < length order → left ≡ remove order i
    → place ≡ get_or order i place → place ≢ count - 1 → 0 < count_by (λ n. n == count - 1) left
last_stands order left i place count h lt is at apart = last_named left place (count - 1) (named_but order left i place count h lt is at) apart

-- What the job in the last place leaves behind.
pub hand_left : (old new : List Task) (order left : List ℕ) (i place count : ℕ) → AreNamedOnce count order → i < length order
    → left ≡ remove order i → place ≡ get_or order i place → IsFilled old new place count → place ≡ count - 1
    → AreNamedOnce (count - 1) left × (jobs_in new left ≡ remove (jobs_in old order) i)
hand_left old new order left i place count h lt is at filled same =
    let one : count ≡ count - 1 + 1 = omega (arith, place_below order i place count h lt at) in
    let named = named_but order left i place count h lt is at in
    let less = named_less left (count - 1) (subst (λ n. AreNamedBut n (count - 1 + 1) left) same named) in (
      less,
      jobs_left old new left place (count - 1) less (now_free left place (count - 1 + 1) named).0 (subst (IsFilled old new place) one filled)
          ∙ (ap (jobs_in old) is ∙ jobs_remove (job_at old) order i),
    )

-- What the job in another place leaves behind, where the last one's name stands at `j` and is changed.
pub hand_moved : (old new : List Task) (order left : List ℕ) (i place count j : ℕ) → AreNamedOnce count order → i < length order
    → left ≡ remove order i → place ≡ get_or order i place → IsFilled old new place count → place ≢ count - 1
    → j < length left → get_or left j 0 ≡ count - 1
    → AreNamedOnce (count - 1) (set left j place) × (jobs_in new (set left j place) ≡ remove (jobs_in old order) i)
hand_moved old new order left i place count j h lt is at filled apart inside there =
    let one : count ≡ count - 1 + 1 = omega (arith, place_below order i place count h lt at) in
    let named = named_but order left i place count h lt is at in
    let free = now_free left place (count - 1 + 1) named in
    let less = named_moved left j place (count - 1) named inside there in (
      less,
      jobs_moved old new left j place (count - 1) less free.0 (subst (IsFilled old new place) one filled) inside there
          (omega (arith, free.1, apart)) ∙ (ap (jobs_in old) is ∙ jobs_remove (job_at old) order i),
    )

-- Each step on the deque of orders keeps its rule.
use Rattle.std.proofs.Common.{◌≡◌, ℕ, zero, suc, ◌+◌, ◌<◌, ◌≤◌, false, true≢false, List, [], ◌∷◌, ◌++◌, length, map, replicate}
use Rattle.std.proofs.Common.{set, IsPermutation, sym, refl, ap, ◌∙◌, subst, append_assoc, arith, length-append}
use Rattle.std.proofs.lemmas.List.{append-nil, map-append, replicate_more}
use Rattle.std.proofs.lemmas.List.Concat.{flat_map-append}
use Rattle.std.proofs.lemmas.List.Elements.{All-nil, All-set, All-push}
use Rattle.std.proofs.lemmas.List.Sorted.{IsPermutation-refl, IsPermutation-trans, IsPermutation-append, IsPermutation-middle}
use mathlib.Core.Option.{some, some-ne-none, some-injective}
use lib.ListN.{get_elem?}
use Rattle.std.proofs.Math.ListN.{length-set}
use Rattle.crossbeam_deque.specs.Tasks.{Pushes, Takes, Forks}
use Rattle.mate_jobs.specs.Jobs.{Task}
use Rattle.room_ends.specs.declared.deque_rule.Order.{Order}
use Rattle.room_ends.specs.declared.deque_rule.Order.TheVariants.{Solve, Stop}
use Rattle.room_ends.specs.declared.deque_rule.View.{View}
use Rattle.room_ends.specs.DequeRule.{stops, JobsFirst, got_by, Distributed, Ruled, keeper_view, bench_view}

pub length_orders : (xs ys : List Order) → length (xs ++ ys) ≡ length xs + length ys
length_orders xs ys = length-append xs ys

pub stops_append : (xs ys : List Order) → stops (xs ++ ys) ≡ stops xs + stops ys
stops_append [] ys = omega arith
stops_append (Solve job ∷ xs) ys = stops_append xs ys
stops_append (Stop ∷ xs) ys = omega (arith, stops_append xs ys)

stops_jobs : (jobs : List Task) → stops (map Solve jobs) ≡ 0
stops_jobs [] = refl
stops_jobs (job ∷ jobs) = stops_jobs jobs

stops_replicate : (n : ℕ) → stops (replicate n Stop) ≡ n
stops_replicate zero = refl
stops_replicate (suc n) = omega (arith, stops_replicate n)

-- a stop may follow everything
jobs_first_stop : (xs : List Order) → JobsFirst xs → JobsFirst (xs ++ Stop ∷ [])
jobs_first_stop xs (jobs, n, is) = (
  jobs,
  n + 1,
  ap (λ l. l ++ Stop ∷ []) is
      ∙ (append_assoc (map Solve jobs) (replicate n Stop) (Stop ∷ []) ∙ ap (λ l. map Solve jobs ++ l) (replicate_more n Stop)),
)

-- a job may follow jobs
jobs_first_job : (xs : List Order) (job : Task) → stops xs ≡ 0 → JobsFirst xs → JobsFirst (xs ++ Solve job ∷ [])
jobs_first_job xs job free (jobs, n, is) =
    let none_yet : n ≡ 0 = omega (arith, ap stops is, stops_append (map Solve jobs) (replicate n Stop), stops_jobs jobs, stops_replicate n) in
    let alone : xs ≡ map Solve jobs = is ∙ (ap (λ k. map Solve jobs ++ replicate k Stop) none_yet ∙ append-nil (map Solve jobs)) in (
      jobs ++ job ∷ [],
      0,
      ap (λ l. l ++ Solve job ∷ []) alone
          ∙ (sym (map-append Solve jobs (job ∷ [])) ∙ sym (append-nil (map Solve (jobs ++ job ∷ [])))),
    )

-- a bench gets one order more
got_by_set : (vs : List View) (n : ℕ) (v : View) (x : Order) → get_elem? vs n ≡ some v
    → IsPermutation (got_by vs ++ x ∷ []) (got_by (set vs n (bench_view (v.got ++ x ∷ []))))
got_by_set [] n v x e = absurd (some-ne-none v (sym e))
got_by_set (u ∷ vs) zero v x e =
    let is : u.got ≡ v.got = ap (λ (y : View). y.got) (some-injective u v e) in
    let whole : (u.got ++ got_by vs) ++ x ∷ [] ≡ v.got ++ (got_by vs ++ x ∷ []) =
    append_assoc u.got (got_by vs) (x ∷ []) ∙ ap (λ l. l ++ (got_by vs ++ x ∷ [])) is in
    let moved : IsPermutation (got_by vs ++ x ∷ []) (x ∷ got_by vs) = subst (λ (l : List Order).
    IsPermutation (got_by vs ++ x ∷ []) (x ∷ l)) (append-nil (got_by vs)) (IsPermutation-middle (got_by vs) x []) in
    subst (λ (l : List Order). IsPermutation l ((v.got ++ x ∷ []) ++ got_by vs)) (sym whole)
    (subst (λ (l : List Order). IsPermutation (v.got ++ (got_by vs ++ x ∷ [])) l) (sym (append_assoc v.got (x ∷ []) (got_by vs)))
    (IsPermutation-append v.got v.got (got_by vs ++ x ∷ []) (x ∷ got_by vs) (IsPermutation-refl v.got) moved))
got_by_set (u ∷ vs) (suc n) v x e =
    subst (λ (l : List Order). IsPermutation l (u.got ++ got_by (set vs n (bench_view (v.got ++ x ∷ [])))))
    (sym (append_assoc u.got (got_by vs) (x ∷ [])))
    (IsPermutation-append u.got u.got (got_by vs ++ x ∷ []) (got_by (set vs n (bench_view (v.got ++ x ∷ []))))
    (IsPermutation-refl u.got) (got_by_set vs n v x e))

-- a new bench got nothing
got_by_push : (vs : List View) → got_by (vs ++ bench_view [] ∷ []) ≡ got_by vs
got_by_push vs = flat_map-append (λ (v : View). v.got) vs (bench_view [] ∷ []) ∙ append-nil (got_by vs)

pub begins : Ruled [] (keeper_view 0 [] ∷ [])
begins = record {
  keeps = refl;
  passes = refl;
  first = [];
  in_order = refl;
  each_once = IsPermutation-refl [];
  few_stops = omega arith;
  jobs_first = ([], 0, refl);
  one_stop = All-nil (λ (v : View). stops v.got ≤ 1);
}

-- the keeper puts an order out
puts : (v : View) (x : Order) (waiting : List Order) (k : View) (bs : List View) → k ≡ v → Distributed waiting k bs
    → stops (v.orders ++ x ∷ []) ≤ v.passes → (JobsFirst v.orders → JobsFirst (v.orders ++ x ∷ []))
    → Distributed (waiting ++ x ∷ []) (keeper_view v.passes (v.orders ++ x ∷ [])) bs
puts v x waiting k bs is rule few first =
    let rule' : Distributed waiting v bs = subst (λ (u : View). Distributed waiting u bs) is rule in
    record {
      keeps = refl;
      passes = rule'.passes;
      first = rule'.first;
      in_order = ap (λ l. l ++ x ∷ []) rule'.in_order ∙ append_assoc rule'.first waiting (x ∷ []);
      each_once = rule'.each_once;
      few_stops = omega (arith, few, rule'.passes);
      jobs_first = first rule'.jobs_first;
      one_stop = rule'.one_stop;
    }

pub puts_job : (port : ℕ) (v : View) (job : Task) → port ≡ 0 → stops v.orders ≡ 0
    → Pushes Ruled port v (Solve job ∷ []) (λ w. w ≡ keeper_view v.passes (v.orders ++ Solve job ∷ []))
puts_job (suc n) v job front free waiting views rule at = absurd (omega (arith, front))
puts_job zero v job front free waiting [] rule at = absurd rule
puts_job zero v job front free waiting (k ∷ bs) rule at = (
  keeper_view v.passes (v.orders ++ Solve job ∷ []),
  puts v (Solve job) waiting k bs (some-injective k v at) rule
      (omega (arith, free, stops_append v.orders (Solve job ∷ []))) (jobs_first_job v.orders job free),
  refl,
)

pub puts_stop : (port : ℕ) (v : View) → port ≡ 0 → stops v.orders < v.passes
    → Pushes Ruled port v (Stop ∷ []) (λ w. w ≡ keeper_view v.passes (v.orders ++ Stop ∷ []))
puts_stop (suc n) v front owed waiting views rule at = absurd (omega (arith, front))
puts_stop zero v front owed waiting [] rule at = absurd rule
puts_stop zero v front owed waiting (k ∷ bs) rule at = (
  keeper_view v.passes (v.orders ++ Stop ∷ []),
  puts v Stop waiting k bs (some-injective k v at) rule
      (omega (arith, owed, stops_append v.orders (Stop ∷ []))) (jobs_first_stop v.orders),
  refl,
)

at_most_one : (got : List Order) (x : Order) → stops got ≡ 0 → stops (got ++ x ∷ []) ≤ 1
at_most_one got (Solve job) free = omega (arith, free, stops_append got (Solve job ∷ []))
at_most_one got Stop free = omega (arith, free, stops_append got (Stop ∷ []))

-- a bench does not have the keeper's pass
not_keeper : (waiting : List Order) (k v : View) (bs : List View) → Distributed waiting k bs → k ≡ v → v.keeps ≡ false → ⊥
not_keeper waiting k v bs rule is bench = true≢false (sym rule.keeps ∙ (ap (λ (u : View). u.keeps) is ∙ bench))

-- a bench that got no stop takes an order
pub takes : (port : ℕ) (v : View) → v.keeps ≡ false → stops v.got ≡ 0 → Takes Ruled port v 1 (λ xs w. w ≡ bench_view (v.got ++ xs))
takes port v bench free xs waiting [] more few rule at = absurd rule
takes zero v bench free xs waiting (k ∷ bs) more few rule at = absurd (not_keeper (xs ++ waiting) k v bs rule (some-injective k v at) bench)
takes (suc n) v bench free [] waiting (k ∷ bs) more few rule at = absurd (omega (arith, more))
takes (suc n) v bench free (x ∷ y ∷ xs) waiting (k ∷ bs) more few rule at = absurd (omega (arith, few))
takes (suc n) v bench free (x ∷ []) waiting (k ∷ bs) more few rule at =
    let w : View = bench_view (v.got ++ x ∷ []) in (
      w,
      record {
        keeps = rule.keeps;
        passes = omega (arith, rule.passes, length-set bs n w);
        first = rule.first ++ x ∷ [];
        in_order = rule.in_order ∙ sym (append_assoc rule.first (x ∷ []) waiting);
        each_once = IsPermutation-trans (rule.first ++ x ∷ []) (got_by bs ++ x ∷ []) (got_by (set bs n w))
            (IsPermutation-append rule.first (got_by bs) (x ∷ []) (x ∷ []) rule.each_once (IsPermutation-refl (x ∷ [])))
            (got_by_set bs n v x at);
        few_stops = omega (arith, rule.few_stops, length-set bs n w);
        jobs_first = rule.jobs_first;
        one_stop = All-set (λ (u : View). stops u.got ≤ 1) bs n w (at_most_one v.got x free) rule.one_stop;
      },
      refl,
    )

-- a pass is handed out
pub hands : (port : ℕ) (v : View) → port ≡ 0 → Forks Ruled port v (keeper_view (v.passes + 1) v.orders) (bench_view [])
hands (suc n) v front waiting views rule at = absurd (omega (arith, front))
hands zero v front waiting [] rule at = absurd rule
hands zero v front waiting (k ∷ bs) rule at =
    let rule' : Distributed waiting v bs = subst (λ (u : View). Distributed waiting u bs) (some-injective k v at) rule in
    let longer : length (bs ++ bench_view [] ∷ []) ≡ length bs + 1 = omega (arith, length-append bs (bench_view [] ∷ [])) in
    record {
      keeps = refl;
      passes = omega (arith, rule'.passes, longer);
      first = rule'.first;
      in_order = rule'.in_order;
      each_once = subst (λ (l : List Order). IsPermutation rule'.first l) (sym (got_by_push bs)) rule'.each_once;
      few_stops = omega (arith, rule'.few_stops, longer);
      jobs_first = rule'.jobs_first;
      one_stop = All-push (λ (u : View). stops u.got ≤ 1) bs (bench_view []) rule'.one_stop (omega arith);
    }

-- The jobs in hand.
use Rattle.std.proofs.Common.{◌≡◌, ◌≢◌, ℕ, zero, suc, ◌≤◌, List, [], ◌∷◌, ◌++◌, length, map, filter, slice_get, true, false}
use Rattle.std.proofs.Common.{not, ap, refl, sym, ◌∙◌, subst, arith, None, Some, cond, ◌||◌, ◌&&◌, ◌==◌, ◌+◌, Bool}
use Rattle.std.specs.List.{list_any, remove}
use Rattle.std.proofs.lemmas.Bool.Decides.{nat_tests}
use Rattle.mate_jobs.specs.Jobs.{Task}
use Rattle.mate_desk.specs.Content.{Content, EntryValue, entries, has_ticket, is_out, is_out_with}
use Rattle.chess_problems.specs.SameProblems.{is_same_problem}
use Rattle.chess_notation.specs.Records.{problem_of}
use Rattle.mate_desk.specs.History.{without}
use Rattle.mate_desk.specs.Calls.{has_out}
use Rattle.mate_desk.specs.inside.Mirrors.{AreApart, AreOut}

pub any_get : (t : ℕ) (jobs : List Task) (i : ℕ) (job : Task) → slice_get jobs i ≡ Some job → t ≡ job.ticket
    → list_any (λ v. v == t) (map (λ j. j.ticket) jobs) ≡ true
any_get t [] i job e q = cc
any_get t (k ∷ ks) zero job e q =
    let p : k.ticket ≡ t = (let r : k ≡ job = cc in ap (λ (j : Task). j.ticket) r) ∙ sym q in
    let w : (k.ticket == t) ≡ true = grind (arith, nat_tests, p) in
    rw w refl
any_get t (k ∷ ks) (suc i) job e q = let w = any_get t ks i job e q in
    (elim (k.ticket == t) as (λ b. (b || list_any (λ v. v == t) (map (λ j. j.ticket) ks)) ≡ true) [ true ↦ refl | false ↦ w ])

filter_none : (t : ℕ) (ts : List ℕ) → list_any (λ v. v == t) ts ≡ false → filter (λ u. not (u == t)) ts ≡ ts
filter_none t [] e = refl
filter_none t (u ∷ us) e = (elim (u == t) as (λ b. (b || list_any (λ v. v == t) us) ≡ false
    → cond (not b) (u ∷ filter (λ u. not (u == t)) us) (filter (λ u. not (u == t)) us) ≡ u ∷ us) [
      | true ↦ λ f. cc
      | false ↦ λ f. ap (λ vs. u ∷ vs) (filter_none t us f)
    ]) e

-- the rest of the hand once a job left it
pub filter_removed : (jobs : List Task) (i : ℕ) (job : Task) → AreApart (map (λ j. j.ticket) jobs) → slice_get jobs i ≡ Some job
    → filter (λ u. not (u == job.ticket)) (map (λ j. j.ticket) jobs) ≡ map (λ j. j.ticket) (remove jobs i)
filter_removed [] i job a e = cc
filter_removed (k ∷ ks) zero job a e =
    let p : k.ticket ≡ job.ticket = let r : k ≡ job = cc in ap (λ (j : Task). j.ticket) r in
    let w : (k.ticket == job.ticket) ≡ true = grind (arith, nat_tests, p) in
    rw w (filter_none job.ticket (map (λ j. j.ticket) ks) (subst (λ t. list_any (λ u. u == t) (map (λ j. j.ticket) ks) ≡ false) p a.0))
filter_removed (k ∷ ks) (suc i) job a e =
    let n : k.ticket ≢ job.ticket = λ p. let w = any_get k.ticket ks i job e p in let v = a.0 in cc in
    let w : (k.ticket == job.ticket) ≡ false = grind (arith, nat_tests, n) in
    rw w (ap (λ ts. k.ticket ∷ ts) (filter_removed ks i job a.1 e))

any_removed : (t : ℕ) (ts : List ℕ) (u : ℕ) → list_any (λ v. v == t) ts ≡ false → list_any (λ v. v == t) (filter (λ v. not (v == u)) ts) ≡ false
any_removed t [] u e = refl
any_removed t (s ∷ ss) u e = (elim (s == t) as (λ b. (s == t) ≡ b → (b || list_any (λ v. v == t) ss) ≡ false
    → list_any (λ v. v == t) (filter (λ v. not (v == u)) (s ∷ ss)) ≡ false) [
      | true ↦ λ w f. cc
      | false ↦ λ w f. (elim (s == u) as (λ b.
          list_any (λ v. v == t) (cond (not b) (s ∷ filter (λ v. not (v == u)) ss) (filter (λ v. not (v == u)) ss)) ≡ false) [
            | true ↦ any_removed t ss u f
            | false ↦ rw w (any_removed t ss u f)
          ])
    ]) refl e

pub apart_removed : (ts : List ℕ) (u : ℕ) → AreApart ts → AreApart (filter (λ v. not (v == u)) ts)
apart_removed [] u a = tt
apart_removed (t ∷ ts) u a = elim (t == u) as (λ b. AreApart (cond (not b) (t ∷ filter (λ v. not (v == u)) ts) (filter (λ v. not (v == u)) ts))) [
  | true ↦ apart_removed ts u a.1
  | false ↦ (any_removed t ts u a.0, apart_removed ts u a.1)
]

any_push : (t : ℕ) (ts : List ℕ) (u : ℕ) → list_any (λ v. v == t) ts ≡ false → u ≢ t → list_any (λ v. v == t) (ts ++ u ∷ []) ≡ false
any_push t [] u e n = let w : (u == t) ≡ false = grind (arith, nat_tests, n) in rw w refl
any_push t (s ∷ ss) u e n = (elim (s == t) as (λ b. (b || list_any (λ v. v == t) ss) ≡ false → (b || list_any (λ v. v == t) (ss ++ u ∷ [])) ≡ false) [
  | true ↦ λ f. cc
  | false ↦ λ f. any_push t ss u f n
]) e

pub apart_push : (ts : List ℕ) (u : ℕ) → AreApart ts → list_any (λ v. v == u) ts ≡ false → AreApart (ts ++ u ∷ [])
apart_push [] u a e = (refl, tt)
apart_push (t ∷ ts) u a e = (elim (t == u) as (λ b. (t == u) ≡ b → (b || list_any (λ v. v == u) ts) ≡ false → AreApart ((t ∷ ts) ++ u ∷ [])) [
  | true ↦ λ w f. cc
  | false ↦ λ w f. let n : u ≢ t = λ p. (let v : (t == u) ≡ true = grind (arith, nat_tests, p) in cc) in
      (any_push t ts u a.0 n, apart_push ts u a.1 f)
]) refl e

-- where each job that was out is out
pub out_kept : (c d : Content) (jobs : List Task) → ((task : Task) → has_out c task ≡ true → has_out d task ≡ true) → AreOut c jobs → AreOut d jobs
out_kept c d [] k a = tt
out_kept c d (job ∷ jobs) k a = (k job a.0, out_kept c d jobs k a.1)

pub out_push : (c : Content) (jobs : List Task) (job : Task) → AreOut c jobs → has_out c job ≡ true → AreOut c (jobs ++ job ∷ [])
out_push c [] job a h = (h, tt)
out_push c (k ∷ ks) job a h = (a.0, out_push c ks job a.1 h)

-- a job whose ticket is none of these
pub not_among : (c : Content) (t : ℕ) (jobs : List Task) → ((task : Task) → has_out c task ≡ true → task.ticket ≢ t)
    → AreOut c jobs → list_any (λ v. v == t) (map (λ j. j.ticket) jobs) ≡ false
not_among c t [] k a = refl
not_among c t (job ∷ jobs) k a = let n = k job a.0 in let w : (job.ticket == t) ≡ false =
    grind (arith, nat_tests, n) in rw w (not_among c t jobs k a.1)

out_others : (c d : Content) (jobs : List Task) (t : ℕ) → list_any (λ u. u == t) (map (λ j. j.ticket) jobs) ≡ false
    → ((task : Task) → task.ticket ≢ t → has_out c task ≡ true → has_out d task ≡ true) → AreOut c jobs → AreOut d jobs
out_others c d [] t e k o = tt
out_others c d (job ∷ jobs) t e k o = (elim (job.ticket == t) as (λ b. (job.ticket == t) ≡ b
    → (b || list_any (λ u. u == t) (map (λ j. j.ticket) jobs)) ≡ false → AreOut d (job ∷ jobs)) [
      | true ↦ λ w f. cc
      | false ↦ λ w f. let n : job.ticket ≢ t = λ p. (let v : (job.ticket == t) ≡ true = grind (arith, nat_tests, p) in cc) in
          (k job n o.0, out_others c d jobs t f k o.1)
    ]) refl e

-- what is out once a job left the hand
pub out_removed : (c d : Content) (jobs : List Task) (i : ℕ) (job : Task) → AreApart (map (λ j. j.ticket) jobs)
    → slice_get jobs i ≡ Some job → ((task : Task) → task.ticket ≢ job.ticket → has_out c task ≡ true → has_out d task ≡ true)
    → AreOut c jobs → AreOut d (remove jobs i)
out_removed c d [] i job a e k o = cc
out_removed c d (j ∷ js) zero job a e k o =
    let r : j ≡ job = cc in
    out_others c d js job.ticket (subst (λ (j : Task). list_any (λ u. u == j.ticket) (map (λ j. j.ticket) js) ≡ false) r a.0) k o.1
out_removed c d (j ∷ js) (suc i) job a e k o =
    let n : j.ticket ≢ job.ticket = λ p. let w = any_get j.ticket js i job e p in let v = a.0 in cc in
    (k j n o.0, out_removed c d js i job a.1 e k o.1)

pub get_ticket : (jobs : List Task) (i : ℕ) (job : Task) → slice_get jobs i ≡ Some job → slice_get (map (λ j. j.ticket) jobs) i ≡ Some job.ticket
get_ticket [] i job e = cc
get_ticket (j ∷ js) zero job e = let r : j ≡ job = cc in ap (λ (j : Task). Some j.ticket) r
get_ticket (j ∷ js) (suc i) job e = get_ticket js i job e

pub get_no_ticket : (jobs : List Task) (i : ℕ) → length jobs ≤ i → slice_get (map (λ j. j.ticket) jobs) i ≡ None
get_no_ticket [] i h = refl
get_no_ticket (j ∷ js) zero h = absurd (omega arith)
get_no_ticket (j ∷ js) (suc i) h = get_no_ticket js i (omega arith)

pub out_get : (c : Content) (jobs : List Task) (i : ℕ) (job : Task) → slice_get jobs i ≡ Some job → AreOut c jobs → has_out c job ≡ true
out_get c [] i job e a = cc
out_get c (j ∷ js) zero job e a = let r : j ≡ job = cc in subst (λ (k : Task). has_out c k ≡ true) r a.0
out_get c (j ∷ js) (suc i) job e a = out_get c js i job e a.1

-- At most one of them is this one.
length_without : (t : ℕ) (ts : List ℕ) → AreApart ts → length ts ≤ length (without t ts) + 1
length_without t [] a = omega arith
length_without t (u ∷ us) a = (elim (u == t) as (λ b. (u == t) ≡ b → suc (length us) ≤ length (cond (not b) (u ∷ without t us) (without t us)) + 1) [
  | true ↦ λ w.
      let q : u ≡ t = grind (arith, nat_tests, w) in
      let same : without t us ≡ us = filter_none t us (subst (λ v. list_any (λ x. x == v) us ≡ false) q a.0) in
      omega (arith, ap length same)
  | false ↦ λ w. omega (arith, length_without t us a.1)
]) refl

-- Each of these is the ticket of an entry.
abbrev pub AreFound : List EntryValue → List ℕ → Type 0
AreFound es [] = Unit {0}
AreFound es (t ∷ ts) = (list_any (has_ticket t) es ≡ true) × AreFound es ts

found_rest : (e : EntryValue) (es : List EntryValue) (ts : List ℕ) → AreFound (e ∷ es) ts → AreFound es (without e.ticket ts)
found_rest e es [] f = tt
found_rest e es (t ∷ ts) f = (elim (t == e.ticket) as (λ b. (t == e.ticket) ≡ b
    → AreFound es (cond (not b) (t ∷ without e.ticket ts) (without e.ticket ts))) [
      | true ↦ λ w. found_rest e es ts f.1
      | false ↦ λ w.
          let other : (e.ticket == t) ≡ false = grind (arith, nat_tests, w) in
          (subst (λ b. (b || list_any (has_ticket t) es) ≡ true) other f.0, found_rest e es ts f.1)
    ]) refl

-- So many tickets, no two of them the same, need so many entries.
pub found_few : (es : List EntryValue) (ts : List ℕ) → AreApart ts → AreFound es ts → length ts ≤ length es
found_few es [] a f = omega arith
found_few [] (t ∷ ts) a f = let g = f.0 in cc
found_few (e ∷ es) (t ∷ ts) a f =
    let few = length_without e.ticket (t ∷ ts) a in
    let rest = found_few es (without e.ticket (t ∷ ts)) (apart_removed (t ∷ ts) e.ticket a) (found_rest e es (t ∷ ts) f) in
    omega (arith, few, rest)

out_found : (task : Task) (es : List EntryValue) → list_any (is_out_with task) es ≡ true → list_any (has_ticket task.ticket) es ≡ true
out_found task [] o = cc
out_found task (e ∷ es) o =
    (elim (has_ticket task.ticket e) as (λ b. ((is_out e.phase && (b && is_same_problem (problem_of e.asked) task.problem))
    || list_any (is_out_with task) es) ≡ true → (b || list_any (has_ticket task.ticket) es) ≡ true) [
      | true ↦ λ f. refl
      | false ↦ λ f. out_found task es (subst (λ b. (b || list_any (is_out_with task) es) ≡ true) (and_nothing (is_out e.phase)) f)
    ]) o
  where
    and_nothing : (b : Bool) → (b && false) ≡ false
    and_nothing true = refl
    and_nothing false = refl

pub jobs_found : (c : Content) (jobs : List Task) → AreOut c jobs → AreFound (entries c) (map (λ j. j.ticket) jobs)
jobs_found c [] o = tt
jobs_found c (job ∷ jobs) o = (out_found job (entries c) o.0, jobs_found c jobs o.1)

-- What was solved, beside the entries that are finished.
use Rattle.std.proofs.Common.{◌≡◌, ℕ, zero, suc, ◌+◌, ◌<◌, ◌≤◌, List, [], ◌∷◌, ◌++◌, length, get_or, set, sum_by, swap_remove}
use Rattle.std.proofs.Common.{Bool, true, false, cond, ap, refl, sym, ◌∙◌, subst, arith, Some, slice_get}
use Rattle.std.proofs.lemmas.List.Sums.{sum_by-cons, sum_by-append, sum_by-set, sum_by-swap_remove}
use Rattle.std.proofs.lemmas.Option.{slice_get-get_or}
use Rattle.chess_problems.specs.Problems.{ProblemValue}
use Rattle.mate_jobs.specs.Jobs.{Task}
use Rattle.chess_notation.specs.Records.{problem_of}
use Rattle.mate_desk.specs.Content.{EntryValue, is_finished, has_task}
use Rattle.mate_desk.specs.inside.Keeping.{task_of, finished_by, AreSolved}
use Rattle.mate_desk.proofs.Changes.{got, got_one, got_inside, told}

-- A job of an entry's ticket and problem is the entry's own.
pub own_job : (task : Task) (e : EntryValue) → has_task task e ≡ true → problem_of e.asked ≡ task.problem → task ≡ task_of e
own_job task e has same =
    let made : ℕ → ProblemValue → Task = λ t p. record { ticket = t; problem = p } in
    ap (λ t. made t task.problem) (sym (told task e has).ticket) ∙ ap (made e.ticket) (sym same)

-- What is read where the entry's own job was seen is that job.
pub own_read : (solved seen : List Task) (place : ℕ) (task : Task) (e : EntryValue) → seen ≡ solved → place < length seen
    → ((done : Task) → slice_get seen place ≡ Some done → done ≡ task_of e)
    → task ≡ get_or solved place task → task ≡ task_of e
own_read solved seen place task e same inside own read =
    let there = got solved place task (subst (λ (ts : List Task). place < length ts) same inside) read in
    own task (ap (λ (ts : List Task). slice_get ts place) same ∙ there)

-- It is taken out.
pub taken_out : (f : Task → ℕ) (solved seen : List Task) (place : ℕ) (task : Task) (e : EntryValue) → seen ≡ solved
    → place < length seen → ((done : Task) → slice_get seen place ≡ Some done → done ≡ task_of e)
    → task ≡ get_or solved place task → is_finished e.phase ≡ true → sum_by f solved ≡ sum_by f (swap_remove solved place task) + finished_by f e
taken_out f solved seen place task e same inside own read done =
    let mine : task ≡ task_of e = own_read solved seen place task e same inside own read in
    let here : finished_by f e ≡ f (get_or solved place task) = rw done (ap f (sym mine ∙ read)) in
    omega (arith, here, sum_by-swap_remove f solved place task (subst (λ (ts : List Task). place < length ts) same inside))

-- what a sum over the entries becomes where one of them changes
sum_set : (f : EntryValue → ℕ) (es : List EntryValue) (n : ℕ) (e y : EntryValue) → slice_get es n ≡ Some e
    → sum_by f (set es n y) + f e ≡ sum_by f es + f y
sum_set f es n e y there =
    let inside = got_inside es n e there in
    let read : get_or es n e ≡ e = got_one (get_or es n e) e (sym (slice_get-get_or es n e inside) ∙ there) in
    omega (arith, ap f read, sum_by-set {X = EntryValue} f es n y e inside)

-- An entry changes that is finished neither before nor after, or both times with the same job.
pub solved_set : (solved : List Task) (es : List EntryValue) (n : ℕ) (e y : EntryValue) → AreSolved solved es
    → slice_get es n ≡ Some e → ((f : Task → ℕ) → finished_by f y ≡ finished_by f e) → AreSolved solved (set es n y)
solved_set solved es n e y s there same f = omega (arith, s f, same f, sum_set (finished_by f) es n e y there)

-- An entry is finished, with one job more.
pub solved_more : (solved : List Task) (es : List EntryValue) (n : ℕ) (e y : EntryValue) (task : Task) → AreSolved solved es
    → slice_get es n ≡ Some e → is_finished e.phase ≡ false → is_finished y.phase ≡ true → task ≡ task_of y
    → AreSolved (solved ++ task ∷ []) (set es n y)
solved_more solved es n e y task s there not_yet done own f =
    let before : finished_by f e ≡ 0 = rw not_yet refl in
    let after : finished_by f y ≡ f task = rw done (ap f (sym own)) in
    let more : sum_by f (solved ++ task ∷ []) ≡ sum_by f solved + (0 + f task) = sum_by-append f solved (task ∷ []) in
    omega (arith, s f, before, after, more, sum_set (finished_by f) es n e y there)

-- An entry comes that is not finished.
pub solved_push : (solved : List Task) (es : List EntryValue) (y : EntryValue) → AreSolved solved es
    → is_finished y.phase ≡ false → AreSolved solved (es ++ y ∷ [])
solved_push solved es y s not_yet f =
    let last : finished_by f y ≡ 0 = rw not_yet refl in
    let more : sum_by (finished_by f) (es ++ y ∷ []) ≡ sum_by (finished_by f) es + (0 + finished_by f y) =
    sum_by-append (finished_by f) es (y ∷ []) in
    omega (arith, s f, last, more)

-- The first entry leaves, with its job where it has one.
pub solved_first : (f : Task → ℕ) (solved : List Task) (e : EntryValue) (es : List EntryValue) → AreSolved solved (e ∷ es)
    → sum_by f solved ≡ finished_by f e + sum_by (finished_by f) es
solved_first f solved e es s = s f ∙ sum_by-cons (finished_by f) e es

-- There are as many jobs as finished entries, and so a place for one more where one is not finished.
ones : (solved : List Task) → sum_by (λ task. 1) solved ≡ length solved
ones [] = refl
ones (task ∷ solved) = omega (arith, ones solved, sum_by-cons (λ (t : Task). 1) task solved)

one_by : (e : EntryValue) → finished_by (λ task. 1) e ≤ 1
one_by e = (elim (is_finished e.phase) as (λ (b : Bool). cond b 1 0 ≤ 1) [
  | true ↦ omega arith
  | false ↦ omega arith
])

few : (es : List EntryValue) → sum_by (finished_by (λ task. 1)) es ≤ length es
few [] = omega arith
few (e ∷ es) = omega (arith, few es, one_by e, sum_by-cons (finished_by (λ (t : Task). 1)) e es)

fewer : (es : List EntryValue) (n : ℕ) (e : EntryValue) → slice_get es n ≡ Some e → is_finished e.phase ≡ false
    → sum_by (finished_by (λ task. 1)) es < length es
fewer [] n e there not_yet = cc
fewer (x ∷ xs) zero e there not_yet =
    let here : finished_by (λ (t : Task). 1) x ≡ 0 = rw (got_one x e there) (rw not_yet refl) in
    omega (arith, here, few xs, sum_by-cons (finished_by (λ (t : Task). 1)) x xs)
fewer (x ∷ xs) (suc n) e there not_yet = omega (arith, fewer xs n e there not_yet, one_by x, sum_by-cons (finished_by (λ (t : Task). 1)) x xs)

pub place_left : (solved : List Task) (es : List EntryValue) (n : ℕ) (e : EntryValue) → AreSolved solved es
    → slice_get es n ≡ Some e → is_finished e.phase ≡ false → length solved < length es
place_left solved es n e s there not_yet = omega (arith, ones solved, s (λ task. 1), fewer es n e there not_yet)

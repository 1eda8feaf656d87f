-- That there is a place for each answer: how many places are left, and how many answers may still come.
use Rattle.std.proofs.Common.{◌≡◌, ◌⊎◌, inl, inr, ℕ, zero, suc, ◌+◌, ◌<◌, ◌≤◌, List, [], ◌∷◌, length, drop}
use Rattle.std.proofs.Common.{get_or, replicate, Bool, true, cond, count_by, ap, refl, ◌∙◌, arith, add-one}
use Rattle.std.proofs.lemmas.List.Sums.{sum_by-cons}
use Rattle.mate_desk.specs.Calls.{empty}
use Rattle.mate_desk.specs.declared.steps_and_replies.Step.{Step}
use Rattle.mate_desk.specs.inside.Stepping.{collects, finishes, is_done, count_done}
use Rattle.mate_desk.proofs.Distinct.{one_if}
use Rattle.mate_desk.proofs.Joined.{joined}

-- There are as many places left as steps that still collect, or as records that are finished and steps that still finish one.
abbrev pub HasPlaces : List Step → ℕ → ℕ → Type 0
HasPlaces ahead done places = (count_by collects ahead ≤ places) ⊎ (done + count_by finishes ahead ≤ places)

queues_new : (n : ℕ) (room : ℕ) → count_by is_done (joined (replicate n (record { room = room; delivered = 0; pending = [] }))) ≡ 0
queues_new zero room = refl
queues_new (suc n) room = queues_new n room

pub none_done : (n room first : ℕ) → count_done (empty n room first) ≡ 0
none_done n room first = queues_new n room

count_suc : (test : Step → Bool) (ss : List Step) (k : ℕ) (s : Step) → k < length ss → get_or ss k s ≡ s
    → count_by test (drop k ss) ≡ cond (test s) 1 0 + count_by test (drop (suc k) ss)
count_suc test [] k s i at = absurd (omega arith)
count_suc test (t ∷ ts) zero s i at = sum_by-cons (λ x. cond (test x) 1 0) t ts ∙ ap (λ x. cond (test x) 1 0 + count_by test ts) at
count_suc test (t ∷ ts) (suc k) s i at = count_suc test ts k s (omega arith) at

count_ahead : (test : Step → Bool) (ss : List Step) (k : ℕ) (s : Step) → k < length ss → get_or ss k s ≡ s
    → count_by test (drop k ss) ≡ cond (test s) 1 0 + count_by test (drop (k + 1) ss)
count_ahead test ss k s i at = rw add-one (count_suc test ss k s i at)

-- before a step that collects
pub place_there : (ss : List Step) (k : ℕ) (s : Step) (done places : ℕ) → k < length ss → get_or ss k s ≡ s
    → HasPlaces (drop k ss) done places → collects s ≡ true → 0 < done → 0 < places
place_there ss k s done places i at (inl p) asked some =
    let one : one_if (collects s) ≡ 1 = rw asked refl in
    omega (arith, count_ahead collects ss k s i at, one, p)
place_there ss k s done places i at (inr p) asked some = omega (arith, p, some)

-- after any step
pub places_left : (ss : List Step) (k : ℕ) (s : Step) (done places after left given : ℕ) → k < length ss → get_or ss k s ≡ s
    → left + given ≡ places → given ≤ cond (collects s) 1 0 → after + given ≤ done + cond (finishes s) 1 0
    → HasPlaces (drop k ss) done places → HasPlaces (drop (k + 1) ss) after left
places_left ss k s done places after left given i at gone asked finished (inl p) =
    inl (omega (arith, count_ahead collects ss k s i at, gone, asked, p))
places_left ss k s done places after left given i at gone asked finished (inr p) =
    inr (omega (arith, count_ahead finishes ss k s i at, gone, finished, p))

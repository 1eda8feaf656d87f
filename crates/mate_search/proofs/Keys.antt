-- The keys in place of all first moves: there is a mate where there is a key, and the variation begins with the first of them.
use Rattle.std.proofs.Common.{◌≡◌, ℕ, suc, ◌+◌, ◌-◌, ◌<◌, Bool, true, false, List, [], ◌∷◌}
use Rattle.std.proofs.Common.{length, filter, Option, None, Some, refl, sym, arith, nat_lt, ◌∙◌}
use Rattle.std.proofs.lemmas.Bool.{lt-ltb}
use Rattle.std.specs.List.{All, list_any}
use Rattle.std.proofs.lemmas.List.Elements.{All-filter}
use Rattle.chess_board.specs.Positions.{Setup}
use Rattle.chess_board.specs.Moves.{Move}
use Rattle.chess_board.specs.Legality.{is_legal}
use Rattle.mate_search.specs.Wins.{leaves_lost, win_among}
use Rattle.chess_problems.specs.declared.outcomes.Outcome.TheVariants.{NoMate}
use Rattle.mate_search.specs.declared.findings.Finding.{Finding}
use Rattle.mate_search.specs.inside.Findings.{outcome_of}
use Rattle.mate_search.specs.inside.Truth.{dist, truth_among}
use Rattle.mate_search.specs.inside.Variation.{keys, variation}
use Rattle.mate_search.proofs.Least.{dist_found, dist_none_more}
use Rattle.mate_search.proofs.Wins.{win_among_step}

any_kept : {X : Type 0} (f : X → Bool) (xs : List X) → list_any f xs ≡ nat_lt 0 (length (filter f xs))
any_kept f [] = refl
any_kept f (x ∷ xs) = (elim (f x) as (λ b. f x ≡ b → list_any f (x ∷ xs) ≡ nat_lt 0 (length (filter f (x ∷ xs)))) [
  | true ↦ λ t. rw t (sym (lt-ltb 0 (suc (length (filter f xs))) (omega arith)))
  | false ↦ λ t. rw t (any_kept f xs)
]) refl

pub win_by_keys : (first : List Move) (p : Setup) (k : ℕ) → win_among first (k + 1) p ≡ nat_lt 0 (length (keys first p (k + 1)))
win_by_keys first p k = win_among_step first (k + 1) p (omega arith) ∙ any_kept (leaves_lost (k + 1 - 1) p) first

-- Where none mates within k moves, a key of a mate in one more makes that the least number, and where there is no key, none mates so.
pub dist_by_key : (first : List Move) (p : Setup) (k b : ℕ) → dist first p k ≡ None
    → 0 < length (keys first p (k + 1)) → k < b → dist first p b ≡ Some (k + 1)
dist_by_key first p k b none some h = dist_found first p k b none (win_by_keys first p k ∙ lt-ltb 0 (length (keys first p (k + 1))) some) h

pub dist_no_key : (first : List Move) (p : Setup) (k : ℕ) → dist first p k ≡ None → length (keys first p (k + 1)) ≡ 0 → dist first p (k + 1) ≡ None
dist_no_key first p k none empty = dist_none_more first p k none (win_by_keys first p k ∙ rw empty refl)

pub keys_legal : (first : List Move) (p : Setup) (n : ℕ) → All (λ m. is_legal p m ≡ true) first → All (λ m. is_legal p m ≡ true) (keys first p n)
keys_legal first p n legal = All-filter (leaves_lost (n - 1) p) (λ m. is_legal p m ≡ true) first legal

-- What is said of the least number of moves, by its keys and its line.
pub truth_by_keys : (first : List Move) (p : Setup) (n b : ℕ) (dm : Option ℕ) (f : Finding) → dm ≡ Some n → dist first p b ≡ Some n
    → f.keys.items ≡ keys first p n → f.pv.items ≡ variation first p n → outcome_of dm f ≡ truth_among first p b
unfolding truth_among
truth_by_keys first p n b dm f is least found line = rw (is, least, ← found, ← line) refl

pub truth_none : (first : List Move) (p : Setup) (b : ℕ) → dist first p b ≡ None → truth_among first p b ≡ NoMate
unfolding truth_among
truth_none first p b none = rw none refl

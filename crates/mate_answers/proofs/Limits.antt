-- What is told of a record's problem within fewer moves than it asks for.
use Rattle.std.proofs.Common.{◌≡◌, ◌≢◌, ◌≤◌, ◌+◌, ◌-◌, ℕ, List, Some, None, refl, subst, sym, arith}
use Rattle.chess_board.specs.Moves.{Move}
use Rattle.chess_notation.specs.Records.{RecordValue, problem_of}
use Rattle.chess_problems.specs.declared.outcomes.Outcome.{Outcome}
use Rattle.chess_problems.specs.declared.outcomes.Outcome.TheVariants.{NoMate}
use Rattle.mate_answers.specs.LimitedReplies.{problem_within}
use Rattle.mate_search.specs.inside.Truth.{dist, first_moves, truth, truth_among}
use Rattle.mate_search.proofs.Least.{dist_kept}

-- There is no mate within 0 moves.
pub none_within_zero : (r : RecordValue) → truth (problem_within 0 r) ≡ NoMate
unfolding truth truth_among dist
none_within_zero r = refl

among_kept : (first : List Move) (r : RecordValue) (n b : ℕ) (o : Outcome) → n ≤ b → truth_among first r.position n ≡ o → o ≢ NoMate
    → truth_among first r.position b ≡ o
unfolding truth_among
among_kept first r n b o few is some = (elim (dist first r.position n) as (λ d. dist first r.position n ≡ d → truth_among first r.position b ≡ o) [
  | Some d ↦ λ e. let e' = rw e at is in let k = dist_kept first r.position n b d e few in rw k e'
  | None ↦ λ e. let e' = rw e at is in absurd (some (sym e'))
]) refl

-- A mate that is found within fewer moves is what there is to say within all.
pub truth_kept : (r : RecordValue) (n : ℕ) (o : Outcome) → n ≤ r.bound → truth (problem_within n r) ≡ o → o ≢ NoMate → truth (problem_of r) ≡ o
unfolding truth first_moves
truth_kept r n o few is some = among_kept (first_moves (problem_of r)) r n r.bound o few is some

-- ---- how many were not decided

pub none_more : (P : ℕ → Type 0) (before : ℕ) → P 0 → P (before - before)
none_more P before none = subst P (omega arith) none

pub one_more : (P : ℕ → Type 0) (before now : ℕ) → now ≡ before + 1 → P 1 → P (now - before)
one_more P before now is one = subst P (omega (arith, is)) one

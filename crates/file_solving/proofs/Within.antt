-- What there is to say of a problem within fewer moves than it asks for.
use Rattle.std.proofs.Common.{◌≡◌, ◌≢◌, ◌≤◌, ℕ, List, Some, None, refl, sym, arith}
use Rattle.chess_board.specs.Moves.{Move}
use Rattle.chess_board.specs.Positions.{Setup}
use Rattle.chess_problems.specs.Problems.{ProblemValue}
use Rattle.chess_problems.specs.declared.outcomes.Outcome.{Outcome}
use Rattle.chess_problems.specs.declared.outcomes.Outcome.TheVariants.{NoMate}
use Rattle.mate_search.specs.inside.PartLaws.{DistReads}
use Rattle.mate_search.specs.inside.Truth.{dist, first_moves, truth, truth_among}

-- the same problem within so many moves
abbrev pub problem_within : ℕ → ProblemValue → ProblemValue
problem_within n q = record { position = q.position; bound = n; avoid = q.avoid }

-- There is no mate within 0 moves.
pub none_within_zero : (q : ProblemValue) → truth (problem_within 0 q) ≡ NoMate
unfolding truth truth_among dist
none_within_zero q = refl

among_kept : DistReads → (first : List Move) (p : Setup) (n b : ℕ) (o : Outcome) → n ≤ b → truth_among first p n ≡ o → o ≢ NoMate
    → truth_among first p b ≡ o
unfolding truth_among
among_kept reads first p n b o few is some = (elim (dist first p n) as (λ d. dist first p n ≡ d → truth_among first p b ≡ o) [
  | Some d ↦ λ e.
      let e' = rw e at is in
      let l = (reads first p n d).0 e in
      let k = (reads first p b d).1 (l.0, omega (arith, l.1, few), l.2, l.3) in
      rw k e'
  | None ↦ λ e. let e' = rw e at is in absurd (some (sym e'))
]) refl

-- A mate that is found within fewer moves is what there is to say within all.
pub truth_kept : DistReads → (q : ProblemValue) (n : ℕ) (o : Outcome) → n ≤ q.bound → truth (problem_within n q) ≡ o → o ≢ NoMate
    → truth q ≡ o
unfolding truth first_moves
truth_kept reads q n o few is some = among_kept reads (first_moves q) q.position n q.bound o few is some

-- There is no mate within no moves.
use Rattle.std.proofs.Common.{◌≡◌, ℕ, zero, suc, ◌≤◌, true, None, refl, arith}
use Rattle.std.specs.Prelude.{nat_le}
use Rattle.std.proofs.lemmas.Bool.Decides.{nat_tests}
use Rattle.chess_board.specs.Positions.{Setup}
use Rattle.chess_problems.specs.Problems.{bound_of}
use Rattle.chess_problems.specs.declared.outcomes.Outcome.TheVariants.{NoMate}
use Rattle.mate_search.specs.inside.Truth.{dist, truth, truth_among}
use Rattle.mate_tree.specs.Continuations.{soonest}

pub none_in_none : (k : ℕ) (p : Setup) → k ≡ 0 → soonest k p ≡ NoMate
unfolding soonest truth truth_among dist
none_in_none k p none = rw none refl

pub no_bound : (n : ℕ) → n ≤ 15 → bound_of n ≡ None → n ≡ 0
no_bound zero few none = refl
no_bound (suc n) few none =
    let some : nat_le 1 (suc n) ≡ true = grind (arith, nat_tests) in
    let within : nat_le (suc n) 15 ≡ true = grind (arith, nat_tests) in
    let e = rw (some, within) at none in cc

-- Tests of all numbers below a number.
use Rattle.std.proofs.Common.{◌≡◌, ℕ, zero, suc, ◌<◌, Bool, true, false, ◌||◌, eqb, refl, arith}
use Rattle.std.proofs.lemmas.Bool.{eqb-true, eqb-false, and_parts, and_from, or_right, or_left}
use Rattle.chess_board.specs.Squares.{any_below, all_below}

pub any_fails : (p : ℕ → Bool) (n : ℕ) → ((s : ℕ) → s < n → p s ≡ false) → any_below n p ≡ false
unfolding any_below
any_fails p zero h = refl
any_fails p (suc n) h = let before = any_fails p n (λ s l. h s (omega arith)) in let here = h n (omega arith) in rw (before, here)

pub any_at : (p : ℕ → Bool) (n s : ℕ) → s < n → p s ≡ true → any_below n p ≡ true
unfolding any_below
any_at p zero s h e = absurd (omega arith)
any_at p (suc n) s h e = (elim (eqb s n) as (λ b. eqb s n ≡ b → (any_below n p || p n) ≡ true) [
  | true ↦ λ t. let same = eqb-true s n t in or_right (any_below n p) (p n) (rw same at e)
  | false ↦ λ t. let ne = eqb-false s n t in or_left (any_below n p) (p n) (any_at p n s (omega arith) e)
]) refl

pub all_yes : (p : ℕ → Bool) (n s : ℕ) → all_below n p ≡ true → s < n → p s ≡ true
unfolding all_below
all_yes p zero s h l = absurd (omega arith)
all_yes p (suc n) s h l = (elim (eqb s n) as (λ b. eqb s n ≡ b → p s ≡ true) [
  | true ↦ λ t. let same = eqb-true s n t in rw same ((and_parts (all_below n p) (p n) h).1)
  | false ↦ λ t. let ne = eqb-false s n t in all_yes p n s ((and_parts (all_below n p) (p n) h).0) (omega arith)
]) refl

pub all_from : (p : ℕ → Bool) (n : ℕ) → ((s : ℕ) → s < n → p s ≡ true) → all_below n p ≡ true
unfolding all_below
all_from p zero h = refl
all_from p (suc n) h = and_from (all_below n p) (p n) (all_from p n (λ s l. h s (omega arith))) (h n (omega arith))

pub all_not : (p : ℕ → Bool) (n s : ℕ) → s < n → p s ≡ false → all_below n p ≡ false
all_not p n s l e = (elim (all_below n p) as (λ b. all_below n p ≡ b → b ≡ false) [
  | true ↦ λ t. let y = all_yes p n s t l in cc
  | false ↦ λ t. refl
]) refl

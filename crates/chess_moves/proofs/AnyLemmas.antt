-- Tests of the numbers below a bound.
use Rattle.std.proofs.Common.{◌≡◌, ℕ, zero, suc, ◌<◌, Bool, true, false, ◌||◌, eqb, refl, arith}
use Rattle.std.proofs.lemmas.Bool.{eqb-true, eqb-false, or_right}
use Rattle.chess_board.specs.Squares.{any_below}

-- tests that agree below n
pub any_same : (p q : ℕ → Bool) (n : ℕ) → ((s : ℕ) → s < n → p s ≡ q s) → any_below n p ≡ any_below n q
unfolding any_below
any_same p q zero h = refl
any_same p q (suc n) h = let e = any_same p q n (λ s l. h s (omega arith)) in let f = h n (omega arith) in rw (e, f)

-- no number passes
pub any_none : (p : ℕ → Bool) (n : ℕ) → ((s : ℕ) → s < n → p s ≡ false) → any_below n p ≡ false
unfolding any_below
any_none p zero h = refl
any_none p (suc n) h = let e = any_none p n (λ s l. h s (omega arith)) in let f = h n (omega arith) in rw (e, f)

-- a number passes
pub any_at : (p : ℕ → Bool) (n s : ℕ) → s < n → p s ≡ true → any_below n p ≡ true
unfolding any_below
any_at p zero s h e = absurd (omega arith)
any_at p (suc n) s h e = (elim (eqb s n) as (λ b. eqb s n ≡ b → (any_below n p || p n) ≡ true) [
  | true ↦ λ t. let same = eqb-true s n t in let e' = rw same at e in or_right (any_below n p) (p n) e'
  | false ↦ λ t. let ne = eqb-false s n t in rw (any_at p n s (omega arith) e)
]) refl

-- a number that passes, found
pub any_some : (p : ℕ → Bool) (n : ℕ) → any_below n p ≡ true → (s : ℕ) × (s < n) × (p s ≡ true)
unfolding any_below
any_some p zero h = absurd (cc)
any_some p (suc n) h = (elim (any_below n p) as (λ b. any_below n p ≡ b → (s : ℕ) × (s < suc n) × (p s ≡ true)) [
  | true ↦ λ t. let found = any_some p n t in (found.0, omega arith, found.2)
  | false ↦ λ t. (n, omega arith, rw t at h)
]) refl

-- one of the tests passes somewhere, or the other
pub any_or : (p q : ℕ → Bool) (n : ℕ) → any_below n (λ s. p s || q s) ≡ (any_below n p || any_below n q)
unfolding any_below
any_or p q zero = refl
any_or p q (suc n) = rw (any_or p q n) (swapped (any_below n p) (any_below n q) (p n) (q n))
  where
    swapped : (a b c d : Bool) → ((a || b) || (c || d)) ≡ ((a || c) || (b || d))
    swapped true b c d = refl
    swapped false true true d = refl
    swapped false true false d = refl
    swapped false false true d = refl
    swapped false false false d = refl

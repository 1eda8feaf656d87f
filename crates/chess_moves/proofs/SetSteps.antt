-- The step of a loop that gathers the numbers which pass a test.
use Rattle.std.proofs.Common.{◌≡◌, ℕ, ◌+◌, Bool, true, false, ◌&&◌, ◌||◌, eqb, ltb, refl, sym, ◌∙◌, arith}
use Rattle.std.proofs.Math.Bool.{and-false}
use Rattle.std.proofs.lemmas.Bool.{eqb-true, eqb-false}
use Rattle.std.proofs.lemmas.Bool.Decides.{nat_tests}

-- the next number passes
pub step_in : (k t : ℕ) (p : ℕ → Bool) → p t ≡ true → (eqb k t || (ltb k t && p k)) ≡ (ltb k (t + 1) && p k)
step_in k t p h = (elim (eqb k t) as (λ b. eqb k t ≡ b → (b || (ltb k t && p k)) ≡ (ltb k (t + 1) && p k)) [
  | true ↦ λ e. let same = eqb-true k t e in let l : ltb k (t + 1) ≡ true = grind (arith, nat_tests) in let pk : p k ≡ true = rw same h in rw (l, pk)
  | false ↦ λ e. let ne = eqb-false k t e in let l : ltb k t ≡ ltb k (t + 1) = grind (arith, nat_tests) in rw l
]) refl

-- the next number does not pass
pub step_out : (k t : ℕ) (p : ℕ → Bool) → p t ≡ false → (ltb k t && p k) ≡ (ltb k (t + 1) && p k)
step_out k t p h = (elim (eqb k t) as (λ b. eqb k t ≡ b → (ltb k t && p k) ≡ (ltb k (t + 1) && p k)) [
  | true ↦ λ e. let same = eqb-true k t e in let pk : p k ≡ false = rw same h in rw pk (and-false (ltb k t) ∙ sym (and-false (ltb k (t + 1))))
  | false ↦ λ e. let ne = eqb-false k t e in let l : ltb k t ≡ ltb k (t + 1) = grind (arith, nat_tests) in rw l
]) refl

-- Sums over the numbers below a bound.
use Rattle.std.proofs.Common.{◌≡◌, ℕ, zero, suc, ◌+◌, ◌<◌, Bool, true, false, ◌&&◌, eqb, cond, refl, sym, arith}
use Rattle.std.proofs.lemmas.Bool.{eqb-true, eqb-false, ne_eqb}

unfoldable pub sum_to : ℕ → (ℕ → ℕ) → ℕ
sum_to zero f = 0
sum_to (suc n) f = sum_to n f + f n

pub sum_same : (n : ℕ) (f g : ℕ → ℕ) → ((s : ℕ) → s < n → f s ≡ g s) → sum_to n f ≡ sum_to n g
unfolding sum_to
sum_same zero f g h = refl
sum_same (suc n) f g h = omega (arith, sum_same n f g (λ s l. h s (omega arith)), h n (omega arith))

pub sum_none : (n : ℕ) (f : ℕ → ℕ) → ((s : ℕ) → s < n → f s ≡ 0) → sum_to n f ≡ 0
unfolding sum_to
sum_none zero f h = refl
sum_none (suc n) f h = omega (arith, sum_none n f (λ s l. h s (omega arith)), h n (omega arith))

pub sum_plus : (n : ℕ) (f g : ℕ → ℕ) → sum_to n (λ s. f s + g s) ≡ sum_to n f + sum_to n g
unfolding sum_to
sum_plus zero f g = refl
sum_plus (suc n) f g = omega (arith, sum_plus n f g)

-- four at a time
pub sum_four : (n : ℕ) (f g h i : ℕ → ℕ) → sum_to n (λ s. f s + g s + h s + i s) ≡ sum_to n f + sum_to n g + sum_to n h + sum_to n i
unfolding sum_to
sum_four zero f g h i = refl
sum_four (suc n) f g h i = omega (arith, sum_four n f g h i)

-- A sum of sums, taken the other way round.
pub sum_swap : (n m : ℕ) (f : ℕ → ℕ → ℕ) → sum_to n (λ a. sum_to m (λ b. f a b)) ≡ sum_to m (λ b. sum_to n (λ a. f a b))
unfolding sum_to
sum_swap zero m f = sym (sum_none m (λ b. 0) (λ s l. refl))
sum_swap (suc n) m f = omega (arith, sum_swap n m f, sum_plus m (λ b. sum_to n (λ a. f a b)) (λ b. f n b))

-- A sum in which one number counts.
pub sum_at : (n q k : ℕ) (b : Bool) → (b ≡ true → q < n) → sum_to n (λ s. cond (eqb s q && b) k 0) ≡ cond b k 0
unfolding sum_to
sum_at n q k false h = sum_none n (λ s. cond (eqb s q && false) k 0) (λ s l. never (eqb s q))
  where
    never : (x : Bool) → cond (x && false) k 0 ≡ 0
    never true = refl
    never false = refl
sum_at n q k true h = one n (h refl)
  where
    one : (m : ℕ) → q < m → sum_to m (λ s. cond (eqb s q && true) k 0) ≡ k
    one zero l = absurd (omega arith)
    one (suc m) l = (elim (eqb m q) as (λ b. eqb m q ≡ b → sum_to m (λ s. cond (eqb s q && true) k 0) + cond (b && true) k 0 ≡ k) [
      | true ↦ λ e.
          let same = eqb-true m q e in
          let none : sum_to m (λ s. cond (eqb s q && true) k 0) ≡ 0 =
          sum_none m (λ s. cond (eqb s q && true) k 0) (λ s j. let apart = ne_eqb s q (λ x. omega arith) in rw apart) in
          omega (arith, none)
      | false ↦ λ e. let ne = eqb-false m q e in omega (arith, one m (omega arith))
    ]) refl

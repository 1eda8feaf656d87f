-- Texts in ASCII order: which are the same, and that the order is strict and total.
use Rattle.std.proofs.Common.{◌≡◌, ◌≢◌, ◌⊎◌, ℕ, ◌<◌, ◌==◌, nat_lt, List, [], ◌∷◌, Bool, true, false, refl, ap, ◌∙◌, arith, inl, inr, ◌&&◌, ◌||◌}
use Rattle.std.proofs.lemmas.Bool.Decides.{nat_tests}
use Rattle.std.proofs.lemmas.Bool.{and_parts, eqb-true}
use Rattle.chess_notation.specs.Opcodes.{same_text, comes_before}

pub same_text_is : (a b : List ℕ) → same_text a b ≡ true → a ≡ b
same_text_is [] [] h = refl
same_text_is [] (y ∷ ys) h = cc
same_text_is (x ∷ xs) [] h = cc
same_text_is (x ∷ xs) (y ∷ ys) h =
    let parts = and_parts (x == y) (same_text xs ys) h in
    ap (λ t. t ∷ xs) (eqb-true x y parts.0) ∙ ap (λ t. y ∷ t) (same_text_is xs ys parts.1)

pub same_text_self : (a : List ℕ) → same_text a a ≡ true
same_text_self [] = refl
same_text_self (x ∷ xs) = let here : (x == x) ≡ true = grind (arith, nat_tests) in rw here (same_text_self xs)

pub same_text_other : (a b : List ℕ) → a ≢ b → same_text a b ≡ false
same_text_other a b other = by_test (same_text a b) refl where
  by_test : (same : Bool) → same_text a b ≡ same → same ≡ false
  by_test true e = absurd (other (same_text_is a b e))
  by_test false e = refl

-- the first bytes in order, or the same and what follows in order
first_cases : (x y : ℕ) (later : Bool) → (nat_lt x y || ((x == y) && later)) ≡ true → (x < y) ⊎ ((x ≡ y) × (later ≡ true))
first_cases x y later h = by_test (nat_lt x y) refl h where
  by_test : (less : Bool) → nat_lt x y ≡ less → (less || ((x == y) && later)) ≡ true → (x < y) ⊎ ((x ≡ y) × (later ≡ true))
  by_test true e h = inl (grind (arith, nat_tests))
  by_test false e h = let parts = and_parts (x == y) later h in inr (eqb-true x y parts.0, parts.1)

first_less : (x y : ℕ) (later : Bool) → x < y → (nat_lt x y || ((x == y) && later)) ≡ true
first_less x y later h = let less : nat_lt x y ≡ true = grind (arith, nat_tests) in rw less refl

first_same : (x y : ℕ) (later : Bool) → x ≡ y → later ≡ true → (nat_lt x y || ((x == y) && later)) ≡ true
first_same x y later e h =
    let less : nat_lt x y ≡ false = grind (arith, nat_tests) in
    let same : (x == y) ≡ true = grind (arith, nat_tests) in
    rw (less, same, h) refl

pub comes_before_trans : (a b c : List ℕ) → comes_before a b ≡ true → comes_before b c ≡ true → comes_before a c ≡ true
comes_before_trans a [] c ab bc = cc
comes_before_trans a (y ∷ ys) [] ab bc = cc
comes_before_trans [] (y ∷ ys) (z ∷ zs) ab bc = refl
comes_before_trans (x ∷ xs) (y ∷ ys) (z ∷ zs) ab bc =
    by_first (first_cases x y (comes_before xs ys) ab) (first_cases y z (comes_before ys zs) bc) (comes_before_trans xs ys zs) where
      by_first : (x < y) ⊎ ((x ≡ y) × (comes_before xs ys ≡ true)) → (y < z) ⊎ ((y ≡ z) × (comes_before ys zs ≡ true))
          → (comes_before xs ys ≡ true → comes_before ys zs ≡ true → comes_before xs zs ≡ true) → comes_before (x ∷ xs) (z ∷ zs) ≡ true
      by_first (inl l) (inl m) later = first_less x z (comes_before xs zs) (omega arith)
      by_first (inl l) (inr m) later = first_less x z (comes_before xs zs) (omega (arith, m.0))
      by_first (inr l) (inl m) later = first_less x z (comes_before xs zs) (omega (arith, l.0))
      by_first (inr l) (inr m) later = first_same x z (comes_before xs zs) (l.0 ∙ m.0) (later l.1 m.1)

pub comes_before_self : (a : List ℕ) → comes_before a a ≡ false
comes_before_self [] = refl
comes_before_self (x ∷ xs) =
    let less : nat_lt x x ≡ false = grind (arith, nat_tests) in
    let same : (x == x) ≡ true = grind (arith, nat_tests) in
    rw (less, same) (comes_before_self xs)

-- Of two texts that are not the same one comes before the other.
pub comes_before_or_after : (a b : List ℕ) → same_text a b ≡ false → comes_before b a ≡ false → comes_before a b ≡ true
comes_before_or_after [] [] other after = cc
comes_before_or_after [] (y ∷ ys) other after = refl
comes_before_or_after (x ∷ xs) [] other after = cc
comes_before_or_after (x ∷ xs) (y ∷ ys) other after = by_tests (nat_lt x y) (x == y) refl refl other after (comes_before_or_after xs ys) where
  by_tests : (less same : Bool) → nat_lt x y ≡ less → (x == y) ≡ same → (same && same_text xs ys) ≡ false
      → (nat_lt y x || ((y == x) && comes_before ys xs)) ≡ false
      → (same_text xs ys ≡ false → comes_before ys xs ≡ false → comes_before xs ys ≡ true) → (less || (same && comes_before xs ys)) ≡ true
  by_tests true same l s other after later = refl
  by_tests false true l s other after later =
      let more : nat_lt y x ≡ false = grind (arith, nat_tests) in
      let back : (y == x) ≡ true = grind (arith, nat_tests) in
      later other (rw (more, back) at after)
  by_tests false false l s other after later = let more : nat_lt y x ≡ true = grind (arith, nat_tests) in cc

-- The squares of a set, rising: what is made of each, and that they are as many as its word has ones.
use Rattle.std.proofs.Common.{◌≡◌, ℕ, zero, suc, ◌+◌, ◌/◌, ◌^◌, ◌<◌, Bool, true, false, cond, eqb, List}
use Rattle.std.proofs.Common.{[], ◌∷◌, ◌++◌, length, refl, ap, ◌∙◌, arith, append-nil, length-append}
use Rattle.std.specs.List.{flat_map}
use Rattle.std.specs.Int.{bit_at}
use Rattle.std.specs.Int.RustNames.{count_ones}
use Rattle.std.specs.Int.Count.{ones_step}
use Rattle.std.proofs.Math.Nat.{pow-suc}
use Rattle.std.proofs.lemmas.Nat.Bits.{bit_at-zero, bit_at_lowest, bit_at-suc, bit_at-lt}
use Rattle.std.proofs.lemmas.List.Concat.{flat_map-append}
use Rattle.square_sets.specs.Members.{has, members_below, members}

below_none : (n : ℕ) → members_below 0 n ≡ []
unfolding members_below
below_none zero = refl
below_none (suc n) = let z = bit_at-zero n in let e = below_none n in rw (e, z)

pub no_members : (set : ℕ) → set ≡ 0 → members set ≡ []
unfolding members
no_members set h = rw h (below_none 64)

-- what a function makes of each, one after the other
pub flat_map-below_suc : {X : Type 0} (f : ℕ → List X) (set n : ℕ)
    → flat_map f (members_below set (suc n)) ≡ flat_map f (members_below set n) ++ cond (has set n) (f n) []
unfolding members_below
flat_map-below_suc f set n = flat_map-append f (members_below set n) (cond (has set n) (n ∷ []) [])
    ∙ ap (λ xs. flat_map f (members_below set n) ++ xs) (one (has set n))
  where
    one : (b : Bool) → flat_map f (cond b (n ∷ []) []) ≡ cond b (f n) []
    one true = append-nil (f n)
    one false = refl

-- How many there are.

pub length-below_more : (set n : ℕ) → length (members_below set (suc n)) ≡ length (members_below set n) + cond (has set n) 1 0
unfolding members_below
length-below_more set n = length-append (members_below set n) (cond (has set n) (n ∷ []) [])
    ∙ ap (λ (x : ℕ). length (members_below set n) + x) (one (has set n))
  where
    one : (b : Bool) → length (cond b (n ∷ []) []) ≡ cond b 1 0
    one true = refl
    one false = refl

-- the lowest place apart, and the places above it
length-below_suc : (set n : ℕ) → length (members_below set (suc n)) ≡ bit_at set 0 + length (members_below (set / 2) n)
unfolding members_below
length-below_suc set zero = one (bit_at set 0) (bit_at-lt set 0)
  where
    one : (x : ℕ) → x < 2 → length {A = ℕ} (cond (eqb x 1) (0 ∷ []) []) ≡ x + 0
    one zero h = refl
    one (suc zero) h = refl
    one (suc (suc x)) h = absurd (omega arith)
length-below_suc set (suc n) = omega (
  arith,
  length-below_more set (suc n),
  length-below_more (set / 2) n,
  length-below_suc set n,
  ap {B = ℕ} (λ (x : ℕ). cond (eqb x 1) 1 0) (bit_at-suc set n),
)

length-below : (n set : ℕ) → set < 2 ^ n → length (members_below set n) ≡ count_ones set
unfolding members_below count_ones
length-below zero set h = let none : set ≡ 0 = omega arith in rw none refl
length-below (suc n) set h =
    let half : set / 2 < 2 ^ n = omega (arith, pow-suc 2 n) in
    omega (arith, length-below_suc set n, length-below n (set / 2) half, bit_at_lowest set, ones_step set)

pub length-members : (set : ℕ) → set < 2 ^ 64 → length (members set) ≡ count_ones set
unfolding members
length-members set h = length-below 64 set h

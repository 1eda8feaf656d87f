-- The squares of a set that is made from others, by bits.
use Rattle.std.proofs.Common.{◌≡◌, ℕ, ◌-◌, ◌^◌, ◌<◌, min, max, not, ◌&&◌, ◌||◌, false, eqb, arith, w64}
use Rattle.std.specs.Int.{bit_at, bit_not}
use Rattle.std.specs.Int.RustNames.{bit_and, bit_or}
use Rattle.std.proofs.lemmas.Bool.Decides.{nat_tests}
use Rattle.std.proofs.lemmas.Nat.Bits.{bit_at-zero, bit_at_and, bit_at_or, bit_at_not, bit_at-lt}
use Rattle.square_sets.specs.Members.{has}

and_test : (x y : ℕ) → x < 2 → y < 2 → eqb (min x y) 1 ≡ (eqb x 1 && eqb y 1)
and_test x y h k = grind (arith, nat_tests)

or_test : (x y : ℕ) → x < 2 → y < 2 → eqb (max x y) 1 ≡ (eqb x 1 || eqb y 1)
or_test x y h k = grind (arith, nat_tests)

less_test : (x y : ℕ) → x < 2 → y < 2 → eqb (min x (1 - y)) 1 ≡ (eqb x 1 && not (eqb y 1))
less_test x y h k = grind (arith, nat_tests)

-- what is in both sets
pub has_and : (a b t : ℕ) → has (bit_and a b) t ≡ (has a t && has b t)
has_and a b t = rw (bit_at_and a b t) (and_test (bit_at a t) (bit_at b t) (bit_at-lt a t) (bit_at-lt b t))

-- what is in one of the sets
pub has_or : (a b t : ℕ) → has (bit_or a b) t ≡ (has a t || has b t)
has_or a b t = rw (bit_at_or a b t) (or_test (bit_at a t) (bit_at b t) (bit_at-lt a t) (bit_at-lt b t))

-- a set less another
pub has_less : (a b t : ℕ) → b < 2 ^ 64 → t < 64 → has (bit_and a (bit_not w64 b)) t ≡ (has a t && not (has b t))
has_less a b t fits l = rw (bit_at_and a (bit_not w64 b) t, bit_at_not w64 b t fits l)
    (less_test (bit_at a t) (bit_at b t) (bit_at-lt a t) (bit_at-lt b t))

-- the empty set
pub has_none : (set u : ℕ) → set ≡ 0 → has set u ≡ false
has_none set u e = rw e (rw (bit_at-zero u))

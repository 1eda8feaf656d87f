-- Tests joined and taken apart.
use Rattle.std.proofs.Common.{◌≡◌, ℕ, ◌<◌, ◌==◌, nat_le, Bool, true, false, ◌&&◌, ◌||◌, refl, arith}
use Rattle.std.proofs.lemmas.Bool.Decides.{nat_tests}

pub and_tells : (a b : Bool) → (a && b) ≡ true → (a ≡ true) × (b ≡ true)
and_tells true b e = (refl, e)
and_tells false b e = cc

pub and_holds : (a b : Bool) → a ≡ true → b ≡ true → (a && b) ≡ true
and_holds a b e f = rw (e, f) refl

pub and_fails : (a b : Bool) → a ≡ false → (a && b) ≡ false
and_fails a b e = rw e refl

pub or_tells : (a b : Bool) → (a || b) ≡ false → (a ≡ false) × (b ≡ false)
or_tells true b e = cc
or_tells false b e = (refl, e)

pub or_fails : (a b : Bool) → a ≡ false → b ≡ false → (a || b) ≡ false
or_fails a b e f = rw (e, f) refl

pub same_number : (n : ℕ) → (n == n) ≡ true
same_number n = grind (arith, nat_tests)

pub equal_tells : (m n : ℕ) → (m == n) ≡ true → m ≡ n
equal_tells m n e = grind (arith, nat_tests, e)

pub less_tells : (m n : ℕ) → nat_le m n ≡ false → n < m
less_tells m n e = grind (arith, nat_tests, e)

-- Tests that are made of others by and, or and not.
use Rattle.std.proofs.Common.{◌≡◌, Bool, true, false, not, ◌&&◌, ◌||◌, refl, sym}
use Rattle.std.proofs.Math.Bool.{and-true, and-false}

pub not_not : (x : Bool) → not (not x) ≡ x
not_not true = refl
not_not false = refl

-- two tests, each of which says the other
pub same_tests : (x y : Bool) → (x ≡ true → y ≡ true) → (y ≡ true → x ≡ true) → x ≡ y
same_tests true true f g = refl
same_tests true false f g = sym (f refl)
same_tests false true f g = g refl
same_tests false false f g = refl

-- Two tests give one answer after a third where they do while it passes.
pub and_when : (a b c : Bool) → (a ≡ true → b ≡ c) → (a && b) ≡ (a && c)
and_when true b c h = h refl
and_when false b c h = refl

-- four tests, each with a fifth
pub four_and : (p q r s n : Bool) → (p && n || q && n || r && n || s && n) ≡ ((p || q || r || s) && n)
four_and p q r s true = simp and-true
four_and p q r s false = simp and-false

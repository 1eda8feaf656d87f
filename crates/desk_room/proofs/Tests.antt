-- Tests put together.
use Rattle.std.proofs.Common.{◌≡◌, true≢false, ℕ, ◌==◌, Bool, true, false, ◌&&◌, ◌||◌, refl, sym, arith}
use Rattle.std.proofs.lemmas.Bool.Decides.{nat_tests}

pub and_both : (a b : Bool) → (a && b) ≡ true → (a ≡ true) × (b ≡ true)
and_both true b e = (refl, e)
and_both false b e = absurd (true≢false (sym e))

pub and_make : (a b : Bool) → a ≡ true → b ≡ true → (a && b) ≡ true
and_make true b e f = f
and_make false b e f = absurd (true≢false (sym e))

pub or_left : (a b : Bool) → a ≡ true → (a || b) ≡ true
or_left true b e = refl
or_left false b e = absurd (true≢false (sym e))

pub or_right : (a b : Bool) → b ≡ true → (a || b) ≡ true
or_right true b e = refl
or_right false b e = e

pub or_swap : (a b c : Bool) → (a || (b || c)) ≡ (b || (a || c))
or_swap true true c = refl
or_swap true false c = refl
or_swap false true c = refl
or_swap false false c = refl

pub or_deep : (a b c : Bool) → ((a || b) || c) ≡ (a || (b || c))
or_deep true b c = refl
or_deep false b c = refl

pub same_is : (m n : ℕ) → (m == n) ≡ true → m ≡ n
same_is m n e = grind (arith, nat_tests, e)

pub not_true : (b : Bool) → (b ≡ true → ⊥) → b ≡ false
not_true true h = absurd (h refl)
not_true false h = refl

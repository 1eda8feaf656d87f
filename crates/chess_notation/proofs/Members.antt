-- The members of a list, by its front.
use Rattle.std.proofs.Common.{◌≡◌, ◌⊎◌, zero, suc, List, [], ◌∷◌, Bool, true, false, ◌||◌, refl, ap, sym, subst, arith, inl, inr, map}
use Rattle.std.specs.Prelude.{Contains}
use Rattle.std.specs.List.{list_any}
use Rattle.std.proofs.lemmas.List.Elements.{Contains-append_right}

pub in_front : {X : Type 0} (x : X) (xs : List X) → Contains (x ∷ xs) x
in_front x xs = (0, omega arith, refl)

pub in_back : {X : Type 0} (y : X) (xs : List X) (x : X) → Contains xs x → Contains (y ∷ xs) x
in_back y xs x h = Contains-append_right (y ∷ []) xs x h

pub in_none : {X : Type 0} (x : X) → Contains [] x → ⊥
in_none x h = omega (arith, h.1)

pub in_cases : {X : Type 0} (y : X) (xs : List X) (x : X) → Contains (y ∷ xs) x → (x ≡ y) ⊎ Contains xs x
in_cases y xs x (zero, on, e) = inl (sym e)
in_cases y xs x (suc k, on, e) = inr (k, omega arith, e)

pub in_same : {X : Type 0} (xs : List X) (x y : X) → x ≡ y → Contains xs y → Contains xs x
in_same xs x y e h = subst (Contains xs) (sym e) h

pub in_map : {X Y : Type 0} (f : X → Y) (xs : List X) (x : X) → Contains xs x → Contains (map f xs) (f x)
in_map f [] x h = absurd (in_none x h)
in_map f (y ∷ ys) x h = elim (in_cases y ys x h) [
  | inl e ↦ in_same (map f (y ∷ ys)) (f x) (f y) (ap f e) (in_front (f y) (map f ys))
  | inr more ↦ in_back (f y) (map f ys) (f x) (in_map f ys x more)
]

pub in_map_from : {X Y : Type 0} (f : X → Y) (xs : List X) (z : Y) → Contains (map f xs) z → (x : X) × Contains xs x × (z ≡ f x)
in_map_from f [] z h = absurd (in_none z h)
in_map_from f (y ∷ ys) z h = elim (in_cases (f y) (map f ys) z h) [
  | inl e ↦ (y, in_front y ys, e)
  | inr more ↦ let got = in_map_from f ys z more in (got.0, in_back y ys got.0 got.1, got.2)
]

-- Where some member passes a test, one is there that does.
pub any_member : {X : Type 0} (f : X → Bool) (xs : List X) → list_any f xs ≡ true → (x : X) × Contains xs x × (f x ≡ true)
any_member f [] h = cc
any_member f (y ∷ ys) h = (elim (f y) as (λ b. f y ≡ b → (b || list_any f ys) ≡ true → (x : _) × Contains (y ∷ ys) x × (f x ≡ true)) [
  | true ↦ λ is any. (y, in_front y ys, is)
  | false ↦ λ is any. let more = any_member f ys any in (more.0, in_back y ys more.0 more.1, more.2)
]) refl h

-- Tests of a list's elements, one after the other.
use Rattle.std.proofs.Common.{◌≡◌, ◌∙◌, ℕ, ◌+◌, ◌<◌, ◌≤◌, Bool, true, false, ◌&&◌, List, length, take, get_or, ap, sym}
use Rattle.std.specs.List.{list_all}
use Rattle.std.proofs.lemmas.List.{take_all}
use Rattle.std.proofs.lemmas.List.Folds.{list_all_at, list_all_more}

pub all_more : {X : Type 0} (p : X → Bool) (xs : List X) (i : ℕ) (x : X) → i < length xs → x ≡ get_or xs i x
    → list_all p (take i xs) ≡ true → p x ≡ true → list_all p (take (i + 1) xs) ≡ true
all_more p xs i x inside is before now =
    list_all_more p xs i x inside ∙ ap (λ b. b && p (get_or xs i x)) before ∙ ap p (sym is) ∙ now

pub not_here : {X : Type 0} (p : X → Bool) (xs : List X) (i : ℕ) (x : X) → i < length xs → x ≡ get_or xs i x → p x ≡ false
    → false ≡ list_all p xs
not_here p xs i x inside is now = sym (list_all_at p xs i x inside (ap p (sym is) ∙ now))

pub all_whole : {X : Type 0} (p : X → Bool) (xs : List X) (i : ℕ) → length xs ≤ i → list_all p (take i xs) ≡ true
    → true ≡ list_all p xs
all_whole p xs i past before = sym before ∙ ap (list_all p) (take_all i xs past)

-- A list from one of its elements on.
use Rattle.std.proofs.Common.{◌≡◌, ◌∙◌, ℕ, suc, ◌<◌, List, ◌∷◌, length, drop, drop-cons, get_or, ap, sym}

pub drop-at : {X : Type 0} (xs : List X) (i : ℕ) (x : X) → i < length xs → x ≡ get_or xs i x → drop i xs ≡ x ∷ drop (suc i) xs
drop-at xs i x here at = drop-cons xs i x here ∙ ap (λ y. y ∷ drop (suc i) xs) (sym at)

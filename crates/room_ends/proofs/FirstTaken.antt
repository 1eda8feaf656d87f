-- What a ring's end takes.
use Rattle.std.proofs.Common.{◌≡◌, ◌∷◌, ◌++◌, [], List, get_or, ap, ◌∙◌, sym}
use mathlib.Core.List.{IsPrefix}

-- The first item that was known is the one that is taken.
pub first_taken : {A : Type 0} (had has known left : List A) (taken first : A) → IsPrefix (first ∷ []) known
    → known ≡ taken ∷ left → has ≡ had ++ taken ∷ [] → has ≡ had ++ first ∷ []
first_taken had has known left taken first p k t = t ∙ ap (λ x. had ++ x ∷ []) (sym (ap (λ l. get_or l 0 first) (p.1 ∙ k)))

-- Behind it stand those that are still known.
pub left_known : {A : Type 0} (known left : List A) (taken first : A) → IsPrefix (first ∷ []) known → known ≡ taken ∷ left → known ≡ first ∷ left
left_known known left taken first p k = k ∙ ap (λ x. x ∷ left) (sym (ap (λ l. get_or l 0 first) (p.1 ∙ k)))

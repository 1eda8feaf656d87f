-- How much each ring gains in a pass.
use Rattle.std.proofs.Common.{◌≡◌, ◌≢◌, ◌<◌, ◌≤◌, ◌⊎◌, inl, inr, ⊎_elim, ℕ, ◌+◌, List, [], ◌∷◌, ◌++◌}
use Rattle.std.proofs.Common.{length, map, set, get_or, refl, ap, ◌∙◌, arith, length-append}
use Rattle.desk_room.specs.inside.Steps.{Untouched, GainBefore}
use Rattle.desk_room.specs.Turns.{GainFew}
use Rattle.desk_room.proofs.Places.{is_or_not, below_or, below_or_past, at_other, at_same, at_old}

pub untouched_same : {A : Type 0} (n : ℕ) (xs ys : List (List A)) → ys ≡ xs → Untouched n xs ys
unfolding Untouched
untouched_same n xs ys e = λ i h. ap (λ l. get_or l i []) e

pub untouched_then : {A : Type 0} (n : ℕ) (xs ys zs : List (List A)) → Untouched n xs ys → Untouched n ys zs → Untouched n xs zs
unfolding Untouched
untouched_then n xs ys zs f g = λ i h. g i h ∙ f i h

pub untouched_set : {A B : Type 0} (f : B → List A) (ls : List B) (n : ℕ) (x : B) → Untouched n (map f ls) (map f (set ls n x))
unfolding Untouched
untouched_set f ls n x = λ i h. at_other f ls n i x [] h

pub one_longer : {A B : Type 0} (f : B → List A) (ls : List B) (n : ℕ) (l m : B) (x : A) → n < length ls → l ≡ get_or ls n l
    → f m ≡ f l ++ x ∷ [] → length (get_or (map f (set ls n m)) n []) ≡ length (get_or (map f ls) n []) + 1
one_longer f ls n l m x h e g = omega (
  arith,
  ap length (at_same f ls n m [] h),
  ap length (at_old f ls n l [] h e),
  ap length g,
  length-append (f l) (x ∷ []),
)

pub as_long : {A B : Type 0} (f : B → List A) (ls : List B) (n : ℕ) (l m : B) → n < length ls → l ≡ get_or ls n l → f m ≡ f l
    → length (get_or (map f (set ls n m)) n []) ≡ length (get_or (map f ls) n [])
as_long f ls n l m h e g = omega (arith, ap length (at_same f ls n m [] h), ap length (at_old f ls n l [] h e), ap length g)

pub gain_none : {A : Type 0} (ring : ℕ) (xs : List (List A)) → GainBefore 0 ring xs xs
unfolding GainBefore
gain_none ring xs = λ i. ((λ h. absurd (omega (arith, h))), (λ h. refl))

pub gain_more : {A : Type 0} (n ring : ℕ) (xs ys zs : List (List A)) → GainBefore n ring xs ys → Untouched n ys zs
    → length (get_or zs n []) ≤ length (get_or ys n []) + ring → GainBefore (n + 1) ring xs zs
unfolding GainBefore Untouched
gain_more n ring xs ys zs g u few = λ i. pick i (is_or_not i n)
  where
    pick : (i : ℕ) → ((i ≡ n) ⊎ (i ≢ n)) → (i < n + 1 → length (get_or zs i []) ≤ length (get_or xs i []) + ring)
        × (n + 1 ≤ i → get_or zs i [] ≡ get_or xs i [])
    pick i (inl e) = (
      (λ h. omega (
        arith,
        few,
        ap (λ k. length (get_or zs k [])) e,
        ap (λ k. length (get_or ys k [])) e,
        ap length ((g i).1 (omega (arith, e))),
      )),
      (λ h. absurd (omega (arith, h, e))),
    )
    pick i (inr e) = ((λ h. omega (arith, ap length (u i e), (g i).0 (below i n h e))), (λ h. u i e ∙ (g i).1 (omega (arith, h))))
      where
        below : (i n : ℕ) → i < n + 1 → i ≢ n → i < n
        below i n h e = ⊎_elim (λ (q : i < n). q) (λ (q : i ≡ n). absurd (e q)) (below_or i n h)

pub gain_all : {A : Type 0} (n ring : ℕ) (xs ys : List (List A)) → GainBefore n ring xs ys → GainFew ring xs ys
unfolding GainBefore GainFew
gain_all n ring xs ys g = λ i. pick i (below_or_past i n)
  where
    pick : (i : ℕ) → ((i < n) ⊎ (n ≤ i)) → length (get_or ys i []) ≤ length (get_or xs i []) + ring
    pick i (inl h) = (g i).0 h
    pick i (inr h) = omega (arith, ap length ((g i).1 h))

pub few_same : {A : Type 0} (ring : ℕ) (ws xs ys zs : List (List A)) → GainFew ring xs ys → xs ≡ ws → zs ≡ ys → GainFew ring ws zs
unfolding GainFew
few_same ring ws xs ys zs g e f = λ i. omega (arith, g i, ap (λ l. length (get_or l i [])) e, ap (λ l. length (get_or l i [])) f)

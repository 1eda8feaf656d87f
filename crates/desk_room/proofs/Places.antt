-- A list with one place changed.
use Rattle.std.proofs.Common.{◌≡◌, ◌≢◌, ◌<◌, ◌≤◌, ◌⊎◌, inl, inr, ⊎_elim, ℕ, zero, suc, ◌+◌, List, []}
use Rattle.std.proofs.Common.{◌∷◌, ◌++◌, length, map, set, get_or, drop, refl, sym, ap, ◌∙◌, arith}
use Rattle.mate_desk.specs.Calls.{change_at}

pub nil_append : {A : Type 0} (xs : List A) → xs ++ [] ≡ xs
nil_append [] = refl
nil_append (x ∷ xs) = ap (λ l. x ∷ l) (nil_append xs)

pub head_is : {A : Type 0} (d x y : A) (xs ys : List A) → x ∷ xs ≡ y ∷ ys → x ≡ y
head_is d x y xs ys e = ap (λ l. get_or l 0 d) e

pub tail_is : {A : Type 0} (x y : A) (xs ys : List A) → x ∷ xs ≡ y ∷ ys → xs ≡ ys
tail_is x y xs ys e = ap (drop 1) e

pub cons_is : {A : Type 0} (x y : A) (xs ys : List A) → x ≡ y → xs ≡ ys → x ∷ xs ≡ y ∷ ys
cons_is x y xs ys e f = ap (λ z. z ∷ xs) e ∙ ap (λ zs. y ∷ zs) f

pub map_length : {A B : Type 0} (f : A → B) (xs : List A) → length (map f xs) ≡ length xs
map_length f [] = refl
map_length f (x ∷ xs) = ap suc (map_length f xs)

pub change_id : {A : Type 0} (n : ℕ) (xs : List A) → change_at n (λ x. x) xs ≡ xs
change_id zero [] = refl
change_id (suc n) [] = refl
change_id zero (x ∷ xs) = refl
change_id (suc n) (x ∷ xs) = ap (λ l. x ∷ l) (change_id n xs)

pub change_length : {A : Type 0} (n : ℕ) (f : A → A) (xs : List A) → length (change_at n f xs) ≡ length xs
change_length zero f [] = refl
change_length (suc n) f [] = refl
change_length zero f (x ∷ xs) = refl
change_length (suc n) f (x ∷ xs) = ap suc (change_length n f xs)

pub change_past : {A : Type 0} (j : ℕ) (f : A → A) (xs : List A) → length xs ≤ j → change_at j f xs ≡ xs
change_past zero f [] h = refl
change_past (suc j) f [] h = refl
change_past zero f (x ∷ xs) h = absurd (omega arith)
change_past (suc j) f (x ∷ xs) h = ap (λ l. x ∷ l) (change_past j f xs (omega arith))

pub map_change : {A B : Type 0} (f : A → B) (g : B → B) (ls : List A) (n : ℕ) (l m : A) → n < length ls → l ≡ get_or ls n l
    → f m ≡ g (f l) → map f (set ls n m) ≡ change_at n g (map f ls)
map_change f g [] n l m h e s = absurd (omega arith)
map_change f g (x ∷ xs) zero l m h e s = ap (λ b. b ∷ map f xs) (s ∙ ap (λ a. g (f a)) e)
map_change f g (x ∷ xs) (suc n) l m h e s = ap (λ bs. f x ∷ bs) (map_change f g xs n l m (omega arith) e s)

pub map_same : {A B : Type 0} (f : A → B) (ls : List A) (n : ℕ) (l m : A) → n < length ls → l ≡ get_or ls n l
    → f m ≡ f l → map f (set ls n m) ≡ map f ls
map_same f [] n l m h e s = absurd (omega arith)
map_same f (x ∷ xs) zero l m h e s = ap (λ b. b ∷ map f xs) (s ∙ ap f e)
map_same f (x ∷ xs) (suc n) l m h e s = ap (λ bs. f x ∷ bs) (map_same f xs n l m (omega arith) e s)

pub at_other : {A B : Type 0} (f : A → B) (ls : List A) (n i : ℕ) (m : A) (d : B) → i ≢ n → get_or (map f (set ls n m)) i d ≡ get_or (map f ls) i d
at_other f [] n i m d h = refl
at_other f (x ∷ xs) zero zero m d h = absurd (omega arith)
at_other f (x ∷ xs) zero (suc i) m d h = refl
at_other f (x ∷ xs) (suc n) zero m d h = refl
at_other f (x ∷ xs) (suc n) (suc i) m d h = at_other f xs n i m d (λ e. h (ap suc e))

pub at_same : {A B : Type 0} (f : A → B) (ls : List A) (n : ℕ) (m : A) (d : B) → n < length ls → get_or (map f (set ls n m)) n d ≡ f m
at_same f [] n m d h = absurd (omega arith)
at_same f (x ∷ xs) zero m d h = refl
at_same f (x ∷ xs) (suc n) m d h = at_same f xs n m d (omega arith)

pub at_old : {A B : Type 0} (f : A → B) (ls : List A) (n : ℕ) (l : A) (d : B) → n < length ls → l ≡ get_or ls n l → get_or (map f ls) n d ≡ f l
at_old f [] n l d h e = absurd (omega arith)
at_old f (x ∷ xs) zero l d h e = ap f (sym e)
at_old f (x ∷ xs) (suc n) l d h e = at_old f xs n l d (omega arith) e

pub drop_all : {A : Type 0} (xs ys : List A) → drop (length xs) (xs ++ ys) ≡ ys
drop_all [] ys = refl
drop_all (x ∷ xs) ys = drop_all xs ys

pub is_or_not : (i n : ℕ) → (i ≡ n) ⊎ (i ≢ n)
is_or_not zero zero = inl refl
is_or_not zero (suc n) = inr (λ q. absurd (omega arith))
is_or_not (suc i) zero = inr (λ q. absurd (omega arith))
is_or_not (suc i) (suc n) = ⊎_elim (λ q. inl (ap suc q)) (λ q. inr (λ r. q (omega arith))) (is_or_not i n)

pub below_or_past : (i n : ℕ) → (i < n) ⊎ (n ≤ i)
below_or_past i zero = inr (omega arith)
below_or_past zero (suc n) = inl (omega arith)
below_or_past (suc i) (suc n) = ⊎_elim (λ q. inl (omega (arith, q))) (λ q. inr (omega (arith, q))) (below_or_past i n)

pub below_or : (i n : ℕ) → i < n + 1 → (i < n) ⊎ (i ≡ n)
below_or zero zero h = inr refl
below_or zero (suc n) h = inl (omega arith)
below_or (suc i) zero h = absurd (omega arith)
below_or (suc i) (suc n) h = ⊎_elim (λ q. inl (omega (arith, q))) (λ q. inr (ap suc q)) (below_or i n (omega arith))

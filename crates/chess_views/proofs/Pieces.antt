-- A text that is written piece by piece: one piece more, all of them, and two or three parts one after the other.
use Rattle.std.proofs.Common.{◌≡◌, ◌∙◌, ℕ, ◌+◌, ◌<◌, ◌≤◌, List, ◌++◌, flat_map, get_or, length, take, refl, sym, ap, append_assoc}
use Rattle.std.proofs.lemmas.List.{flat_map_more, take_all, take_more}

pub pieces_more : {X : Type 0} (f : X → List ℕ) (before text more : List ℕ) (xs : List X) (i : ℕ) (x d : X) → i < length xs → x ≡ get_or xs i d
    → text ≡ before ++ flat_map f (take i xs) → more ≡ text ++ f x → more ≡ before ++ flat_map f (take (i + 1) xs)
pieces_more f before text more xs i x d within read so_far written =
    written
    ∙ ap (λ t. t ++ f x) so_far
    ∙ ap (λ y. (before ++ flat_map f (take i xs)) ++ f y) read
    ∙ flat_map_more f before (take i xs) (get_or xs i d)
    ∙ ap (λ ys. before ++ flat_map f ys) (sym (take_more xs i d within))

pub pieces_all : {X : Type 0} (f : X → List ℕ) (before text : List ℕ) (xs all : List X) (i : ℕ) → length xs ≤ i → xs ≡ all
    → text ≡ before ++ flat_map f (take i xs) → text ≡ before ++ flat_map f all
pieces_all f before text xs all i over same so_far = so_far ∙ ap (λ ys. before ++ flat_map f ys) (take_all i xs over ∙ same)

pub parts_two : (t0 t1 t2 a b a' b' : List ℕ) → a ≡ a' → b ≡ b' → t1 ≡ t0 ++ a → t2 ≡ t1 ++ b → t2 ≡ t0 ++ (a' ++ b')
parts_two t0 t1 t2 a b a' b' first second one two =
    two ∙ ap (λ t. t ++ b) (one ∙ ap (λ x. t0 ++ x) first) ∙ append_assoc t0 a' b ∙ ap (λ x. t0 ++ (a' ++ x)) second

pub parts_three : (t0 t1 t2 t3 a b c a' b' c' : List ℕ) → a ≡ a' → b ≡ b' → c ≡ c' → t1 ≡ t0 ++ a → t2 ≡ t1 ++ b → t3 ≡ t2 ++ c
    → t3 ≡ t0 ++ ((a' ++ b') ++ c')
parts_three t0 t1 t2 t3 a b c a' b' c' first second third one two three =
    parts_two t0 t2 t3 (a' ++ b') c (a' ++ b') c' refl third (parts_two t0 t1 t2 a b a' b' first second one two) three

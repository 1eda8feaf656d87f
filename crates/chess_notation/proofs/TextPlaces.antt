-- A text's place among texts.
use Rattle.std.proofs.Common.{◌≡◌, ℕ, suc, ◌+◌, ◌<◌, List, [], ◌∷◌, ◌++◌, true, false, length, take}
use Rattle.std.proofs.Common.{drop, get_or, map, refl, ap, sym, ◌∙◌, arith, add-one, append_assoc}
use Rattle.std.proofs.lemmas.List.{take_more, map-append, take-map, drop-map, get_or-map, length-map}
use Rattle.std.specs.List.{insert}
use Rattle.chess_notation.specs.Opcodes.{comes_before}
use Rattle.chess_notation.specs.Answers.{with_text}
use Rattle.chess_notation.proofs.Drops.{drop-at}

-- The text goes behind those that were looked at.
abbrev pub GoesBehind : List (List ℕ) → List ℕ → ℕ → Type 0
GoesBehind texts text i = with_text text texts ≡ take i texts ++ with_text text (drop i texts)

pub behind_one_more : (texts : List (List ℕ)) (text t : List ℕ) (i : ℕ) → i < length texts → t ≡ get_or texts i t
    → comes_before text t ≡ false → GoesBehind texts text i
    → GoesBehind texts text (i + 1)
behind_one_more texts text t i here at after so_far =
    let split = drop-at texts i t here at in
    let taken : take (i + 1) texts ≡ take i texts ++ t ∷ [] = take_more texts i t here ∙ ap (λ x. take i texts ++ x ∷ []) (sym at) in
    let step : with_text text (t ∷ drop (suc i) texts) ≡ t ∷ with_text text (drop (suc i) texts) = rw after refl in
    rw (taken, add-one) (so_far ∙ ap (λ x. take i texts ++ x) (ap (with_text text) split ∙ step)
    ∙ sym (append_assoc (take i texts) (t ∷ []) (with_text text (drop (suc i) texts))))

pub placed_before : (texts : List (List ℕ)) (text t : List ℕ) (i : ℕ) → i < length texts → t ≡ get_or texts i t
    → comes_before text t ≡ true → GoesBehind texts text i
    → with_text text texts ≡ insert texts i text
placed_before texts text t i here at before so_far =
    let split = drop-at texts i t here at in
    let step : with_text text (t ∷ drop (suc i) texts) ≡ text ∷ t ∷ drop (suc i) texts = rw before refl in
    so_far ∙ ap (λ x. take i texts ++ x) (ap (with_text text) split ∙ step ∙ ap (λ x. text ∷ x) (sym split))

pub map-insert : {X Y : Type 0} (f : X → Y) (xs : List X) (i : ℕ) (x : X) → map f (insert xs i x) ≡ insert (map f xs) i (f x)
map-insert f xs i x =
    map-append f (take i xs) (x ∷ drop i xs) ∙ ap (λ t. t ++ f x ∷ map f (drop i xs)) (sym (take-map f i xs))
    ∙ ap (λ t. take i (map f xs) ++ f x ∷ t) (sym (drop-map f i xs))

pub get_or-seen : {X Y : Type 0} (f : X → Y) (xs : List X) (i : ℕ) (x : X) → i < length xs → x ≡ get_or xs i x → f x ≡ get_or (map f xs) i (f x)
get_or-seen f xs i x here at = ap f at ∙ sym (get_or-map f xs i x (f x) here)

pub length-seen : {X Y : Type 0} (f : X → Y) (xs : List X) (i : ℕ) → i < length xs → i < length (map f xs)
length-seen f xs i here = omega (arith, length-map xs f)

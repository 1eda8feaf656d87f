-- The words behind one, a word further.
use Rattle.std.proofs.Common.{◌≡◌, ◌∙◌, ◌-◌, ◌≤◌, ℕ, Bool, true, false, List, [], ◌∷◌, length, map, take, drop, get_or, ap, arith, refl, sym}
use Rattle.std.proofs.lemmas.List.{take_rest}
use Rattle.std.specs.Str.{bytes_eq}
use Rattle.uci_commands.specs.Marks.{behind}

pub behind_next : {X : Type 0} (f : X → List ℕ) (xs : List X) (d : X) (mark : List ℕ) (is : Bool) → 1 ≤ length xs
    → is ≡ bytes_eq (f (get_or xs 0 d)) mark → is ≡ false → behind mark (map f (take (length xs - 1) (drop 1 xs))) ≡ behind mark (map f xs)
behind_next f [] d mark is some same other = absurd (omega (arith, some))
behind_next f (x ∷ xs) d mark is some same other =
    let here : behind mark (f x ∷ map f xs) ≡ behind mark (map f xs) = rw (sym same ∙ other) refl in
    ap (λ t. behind mark (map f t)) (take_rest (x ∷ xs) 1) ∙ sym here

pub behind_here : {X : Type 0} (f : X → List ℕ) (xs : List X) (d : X) (mark : List ℕ) (is : Bool) → 1 ≤ length xs
    → is ≡ bytes_eq (f (get_or xs 0 d)) mark → is ≡ true → map f (take (length xs - 1) (drop 1 xs)) ≡ behind mark (map f xs)
behind_here f [] d mark is some same found = absurd (omega (arith, some))
behind_here f (x ∷ xs) d mark is some same found =
    let here : behind mark (f x ∷ map f xs) ≡ map f xs = rw (sym same ∙ found) refl in
    ap (map f) (take_rest (x ∷ xs) 1) ∙ sym here

-- What a test keeps of a list that is gone through from its front.
use Rattle.std.proofs.Common.{◌≡◌, ◌<◌, Bool, true, false, List, [], ◌∷◌, ◌++◌, length, filter, refl, sym, ap, ◌∙◌, arith, append_assoc, append-nil}
use Rattle.std.proofs.lemmas.List.{length-append}

-- the next element is kept
pub kept_next : {X : Type 0} (f : X → Bool) (old new xs rest : List X) (x : X) → xs ≡ x ∷ rest → f x ≡ true → new ≡ old ++ x ∷ []
    → new ++ filter f rest ≡ old ++ filter f xs
kept_next f old new xs rest x is on e = rw (is, on, e, append_assoc) refl

-- or it is left out
pub left_next : {X : Type 0} (f : X → Bool) (old new xs rest : List X) (x : X) → xs ≡ x ∷ rest → f x ≡ false → new ≡ old
    → new ++ filter f rest ≡ old ++ filter f xs
left_next f old new xs rest x is off e = rw (is, off, e) refl

-- For one that is to be kept there is room.
pub room_next : {X : Type 0} (f : X → Bool) (old xs rest all : List X) (x : X) → xs ≡ x ∷ rest → f x ≡ true → old ++ filter f xs ≡ all
    → length old < length all
room_next f old xs rest all x is on e =
    let e' : old ++ x ∷ filter f rest ≡ all = rw on at (rw is at e) in
    omega (arith, length-append old (x ∷ filter f rest), ap length e')

-- None is left.
pub none_next : {X : Type 0} (f : X → Bool) (old xs all : List X) → xs ≡ [] → old ++ filter f xs ≡ all → old ≡ all
none_next f old xs all is e = sym (append-nil old) ∙ (rw is at e)

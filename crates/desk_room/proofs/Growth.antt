-- Lists that only grew, and what they gained.
use Rattle.std.proofs.Common.{◌≡◌, ◌<◌, ℕ, zero, suc, Bool, ◌||◌, List, [], ◌∷◌, ◌++◌, length, drop, refl, sym, ap, ◌∙◌, arith, append_assoc}
use Rattle.std.specs.List.{list_any}
use Rattle.mate_desk.specs.Calls.{change_at}
use Rattle.desk_room.specs.Events.{one_more}
use Rattle.desk_room.specs.Turns.{gained}
use Rattle.desk_room.proofs.Places.{nil_append, drop_all}
use Rattle.desk_room.proofs.Tests.{or_swap, or_deep}

abbrev pub Grown : {A : Type 0} → List (List A) → List (List A) → Type 0
Grown [] [] = Unit {0}
Grown [] (n ∷ ns) = ⊥
Grown (o ∷ os) [] = ⊥
Grown {A} (o ∷ os) (n ∷ ns) = ((r : List A) × (n ≡ o ++ r)) × Grown os ns

pub grown_same : {A : Type 0} (os : List (List A)) → Grown os os
grown_same [] = tt
grown_same (o ∷ os) = (([], sym (nil_append o)), grown_same os)

pub grown_change : {A : Type 0} (x : A) (b : ℕ) (os ns : List (List A)) → Grown (change_at b (one_more x) os) ns → Grown os ns
grown_change x zero [] ns g = g
grown_change x (suc b) [] ns g = g
grown_change x zero (o ∷ os) [] g = absurd g
grown_change x (suc b) (o ∷ os) [] g = absurd g
grown_change x zero (o ∷ os) (n ∷ ns) g = ((x ∷ g.0.0, g.0.1 ∙ append_assoc o (x ∷ []) g.0.0), g.1)
grown_change x (suc b) (o ∷ os) (n ∷ ns) g = (g.0, grown_change x b os ns g.1)

pub any_append : {A : Type 0} (p : A → Bool) (xs ys : List A) → list_any p (xs ++ ys) ≡ (list_any p xs || list_any p ys)
any_append p [] ys = refl
any_append p (x ∷ xs) ys = ap (λ b. p x || b) (any_append p xs ys) ∙ sym (or_deep (p x) (list_any p xs) (list_any p ys))

pub none_gained : {A : Type 0} (os : List (List A)) → gained os os ≡ []
none_gained [] = refl
none_gained (o ∷ os) = ap (λ l. l ++ gained os os) (ap (drop (length o)) (sym (nil_append o)) ∙ drop_all o []) ∙ none_gained os

-- What one list gained first stands among all that was gained.
pub any_more : {A : Type 0} (p : A → Bool) (x : A) (b : ℕ) (os ns : List (List A)) → b < length os → Grown
    (change_at b (one_more x) os) ns → list_any p (gained os ns) ≡ (p x || list_any p (gained (change_at b (one_more x) os) ns))
any_more p x b [] ns h g = absurd (omega arith)
any_more p x zero (o ∷ os) [] h g = absurd g
any_more p x (suc b) (o ∷ os) [] h g = absurd g
any_more p x zero (o ∷ os) (n ∷ ns) h g =
    let r = g.0.0 in
    let e : drop (length o) n ≡ x ∷ r = ap (drop (length o)) (g.0.1 ∙ append_assoc o (x ∷ []) r) ∙ drop_all o (x ∷ r) in
    let f : drop (length (o ++ x ∷ [])) n ≡ r = ap (drop (length (o ++ x ∷ []))) g.0.1 ∙ drop_all (o ++ x ∷ []) r in
    ap (λ l. list_any p (l ++ gained os ns)) e ∙ ap (λ l. p x || list_any p (l ++ gained os ns)) (sym f)
any_more p x (suc b) (o ∷ os) (n ∷ ns) h g =
    any_append p (drop (length o) n) (gained os ns)
    ∙ (ap (λ z. list_any p (drop (length o) n) || z) (any_more p x b os ns (omega arith) g.1)
    ∙ (or_swap (list_any p (drop (length o) n)) (p x) (list_any p (gained (change_at b (one_more x) os) ns))
    ∙ ap (λ z. p x || z) (sym (any_append p (drop (length o) n) (gained (change_at b (one_more x) os) ns)))))

-- A text cut outside its strings, part by part.
use Rattle.std.proofs.Common.{◌≡◌, ℕ, suc, ◌+◌, ◌<◌, ◌≤◌, add-one, List, [], ◌∷◌, ◌++◌, Bool, true, false, Option, if◌then◌else◌}
use Rattle.std.proofs.Common.{◌==◌, arith, eqb-true, suc-ne-zero, length, length-drop, refl, ap, sym, ◌∙◌, take, drop, drop-cons, get_or}
use Rattle.std.proofs.lemmas.List.{append-nil, drop_all, take_all, take_more}
use Rattle.problem_import.specs.Numbers.{byte_onto, ends_part, mark_behind, parts_from, parts_of}

-- what was passed over, in front of the first part of what is left
abbrev pub front_onto : List ℕ → List (List ℕ) → List (List ℕ)
front_onto [] parts = parts
front_onto (b ∷ bs) parts = byte_onto b (front_onto bs parts)

front_onto-push : (front : List ℕ) (b : ℕ) (parts : List (List ℕ)) → front_onto (front ++ b ∷ []) parts ≡ front_onto front (byte_onto b parts)
front_onto-push [] b parts = refl
front_onto-push (x ∷ front) b parts = ap (byte_onto x) (front_onto-push front b parts)

front_onto-first : (front part : List ℕ) (parts : List (List ℕ)) → front_onto front (part ∷ parts) ≡ (front ++ part) ∷ parts
front_onto-first [] part parts = refl
front_onto-first (x ∷ front) part parts = ap (byte_onto x) (front_onto-first front part parts)

abbrev pub IsCutSoFar : ℕ → List ℕ → Option ℕ → ℕ → ℕ → Type 0
IsCutSoFar sign text mark before i = front_onto (take i text) (parts_from sign mark before (drop i text)) ≡ parts_of sign text

cut_step : (sign : ℕ) (mark : Option ℕ) (before b : ℕ) (bs : List ℕ) → ends_part mark sign b ≡ false
    → parts_from sign mark before (b ∷ bs) ≡ byte_onto b (parts_from sign (mark_behind mark before b bs) b bs)
cut_step sign mark before b bs test = rw test refl

pub cut_more : (sign : ℕ) (text rest : List ℕ) (mark next : Option ℕ) (before i b : ℕ) → IsCutSoFar sign text mark before i → i < length text
    → b ≡ get_or text i 0 → ends_part mark sign b ≡ false → rest ≡ drop (i + 1) text → next ≡ mark_behind mark before b rest
    → IsCutSoFar sign text next b (i + 1)
cut_more sign text rest mark next before i b so_far here at test behind now =
    let split : drop i text ≡ b ∷ drop (i + 1) text = rw add-one (drop-cons text i 0 here ∙ ap (λ x. x ∷ drop (suc i) text) (sym at)) in
    let taken : take (i + 1) text ≡ take i text ++ b ∷ [] = take_more text i 0 here ∙ ap (λ x. take i text ++ x ∷ []) (sym at) in
    let goes : next ≡ mark_behind mark before b (drop (i + 1) text) = now ∙ ap (mark_behind mark before b) behind in
    rw (taken, goes, front_onto-push) (ap (front_onto (take i text))
    (sym (cut_step sign mark before b (drop (i + 1) text) test) ∙ ap (parts_from sign mark before) (sym split)) ∙ so_far)

pub cut_here : (sign : ℕ) (text front rest : List ℕ) (mark : Option ℕ) (before i b : ℕ) → IsCutSoFar sign text mark before i → i < length text
    → b ≡ get_or text i 0 → ends_part mark sign b ≡ true → front ≡ take i text → rest ≡ drop (i + 1) text
    → parts_of sign text ≡ front ∷ parts_of sign rest
cut_here sign text front rest mark before i b so_far here at test first behind =
    let split : drop i text ≡ b ∷ drop (i + 1) text = rw add-one (drop-cons text i 0 here ∙ ap (λ x. x ∷ drop (suc i) text) (sym at)) in
    let step : parts_from sign mark before (b ∷ drop (i + 1) text) ≡ [] ∷ parts_of sign (drop (i + 1) text) = rw test refl in
    rw (first, behind) (sym so_far ∙ ap (λ t. front_onto (take i text) (parts_from sign mark before t)) split
    ∙ ap (front_onto (take i text)) step
    ∙ front_onto-first (take i text) [] (parts_of sign (drop (i + 1) text))
    ∙ ap (λ t. t ∷ parts_of sign (drop (i + 1) text)) (append-nil (take i text)))

pub cut_none : (sign : ℕ) (text : List ℕ) (mark : Option ℕ) (before i : ℕ) → IsCutSoFar sign text mark before i → length text ≤ i
    → parts_of sign text ≡ text ∷ []
cut_none sign text mark before i so_far end =
    sym so_far ∙ ap (λ t. front_onto (take i text) (parts_from sign mark before t)) (drop_all i text end)
    ∙ front_onto-first (take i text) [] [] ∙ ap (λ t. t ∷ []) (append-nil (take i text) ∙ take_all i text end)

-- A part of a text, and those behind it, for what takes an empty part for none.
pub behind_part : {A : Type 0} (f : List (List ℕ) → A) → f ([] ∷ []) ≡ f [] → (sign : ℕ) (rest : List ℕ) (ended : Bool)
    → (ended ≡ false → rest ≡ [])
    → f (if ended then parts_of sign rest else []) ≡ f (parts_of sign rest)
behind_part f same sign rest true last = refl
behind_part f same sign rest false last = sym same ∙ ap (λ t. f (parts_of sign t)) (sym (last refl))

-- ---- the first part of a text

pub cut_if : (sign : ℕ) (text part rest : List ℕ) (ended : Bool) → (ended ≡ true → parts_of sign text ≡ part ∷ parts_of sign rest)
    → (ended ≡ false → parts_of sign text ≡ part ∷ []) → parts_of sign text ≡ part ∷ (if ended then parts_of sign rest else [])
cut_if sign text part rest true cut last = cut refl
cut_if sign text part rest false cut last = last refl

pub parts_none : (sign : ℕ) (text : List ℕ) → (length text == 0) ≡ true → parts_of sign text ≡ [] ∷ []
parts_none sign [] is = refl
parts_none sign (b ∷ bs) is = absurd (suc-ne-zero (length bs) (eqb-true (suc (length bs)) 0 is))

some_length : (text : List ℕ) → (length text == 0) ≡ false → 0 < length text
some_length [] is = let no : true ≡ false = is in cc
some_length (b ∷ bs) is = omega arith

pub shorter_if : (text rest : List ℕ) (ended : Bool) → (length text == 0) ≡ false → (ended ≡ true → length rest < length text)
    → (ended ≡ false → rest ≡ []) → length rest < length text
shorter_if text rest true some less none = less refl
shorter_if text rest false some less none = rw (none refl) (some_length text some)

pub shorter_rest : (text rest : List ℕ) (i : ℕ) → rest ≡ drop (i + 1) text → i < length text → length rest < length text
shorter_rest text rest i is within = rw is (omega (arith, within, length-drop (i + 1) text))

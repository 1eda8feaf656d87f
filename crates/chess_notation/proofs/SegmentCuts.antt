-- Cutting at semicolons: the front of a text that is passed over, and the cut parts put together again.
use Rattle.std.proofs.Common.{◌≡◌, ◌≢◌, ℕ, ◌==◌, List, [], ◌∷◌, ◌++◌, Bool, true, false, refl, ap, sym, ◌∙◌, append_assoc, if◌then◌else◌}
use Rattle.std.proofs.lemmas.Bool.{eqb-true}
use Rattle.std.proofs.lemmas.List.{append-nil}
use mathlib.Core.Bool.{not}
use Rattle.chess_notation.specs.Segments.{Segments, byte_onto, with_byte, with_segment, inside_after, ends_segment, segments_from, segments_of}
use Rattle.chess_notation.proofs.OperandReading.{is_uncut}
use Rattle.chess_notation.proofs.WordSplits.{not_byte}

-- the text in front of the first segment
abbrev pub with_front : List ℕ → Segments → Segments
with_front [] cut = cut
with_front (b ∷ bs) cut = with_byte b (with_front bs cut)

with_front-append : (front more : List ℕ) (cut : Segments) → with_front (front ++ more) cut ≡ with_front front (with_front more cut)
with_front-append [] more cut = refl
with_front-append (x ∷ front) more cut = ap (with_byte x) (with_front-append front more cut)

pub with_front-segment : (front segment : List ℕ) (cut : Segments) → with_front front (with_segment segment cut) ≡ with_segment (front ++ segment) cut
with_front-segment [] segment cut = refl
with_front-segment (x ∷ front) segment cut = ap (with_byte x) (with_front-segment front segment cut)

pub with_front-none : (front rest : List ℕ) → with_front front (record { ended = []; rest = rest }) ≡ record { ended = []; rest = front ++ rest }
with_front-none [] rest = refl
with_front-none (x ∷ front) rest = ap (with_byte x) (with_front-none front rest)

-- The text is passed over: cutting goes on behind it, inside a string or not.
pub record Passes (inside : Bool) (text : List ℕ) (still : Bool) : Type 0 where
  pub passes : (more : List ℕ) → segments_from inside (text ++ more) ≡ with_front text (segments_from still more)

pub passes_none : (inside : Bool) → Passes inside [] inside
passes_none inside = record { passes = λ more. refl }

pub passes_mark : (inside : Bool) → Passes inside (34 ∷ []) (not inside)
passes_mark true = record { passes = λ more. refl }
passes_mark false = record { passes = λ more. refl }

pub passes_other : (inside : Bool) (b : ℕ) → b ≢ 34 → (inside ≡ false → b ≢ 59) → Passes inside (b ∷ []) inside
passes_other true b mark end = record { passes = λ more. (let test : (b == 34) ≡ false = not_byte b 34 mark in rw test refl) }
passes_other false b mark end = record {
  passes = λ more. (let test : (b == 34) ≡ false = not_byte b 34 mark in
      let last : (b == 59) ≡ false = not_byte b 59 (end refl) in rw (last, test) refl);
}

pub passes_append : (a : Bool) (xs : List ℕ) (b : Bool) (ys : List ℕ) (c : Bool) → Passes a xs b → Passes b ys c → Passes a (xs ++ ys) c
passes_append a xs b ys c first second = record {
  passes = λ more.
      ap (segments_from a) (append_assoc xs ys more) ∙ first.passes (ys ++ more) ∙ ap (with_front xs) (second.passes more)
      ∙ sym (with_front-append xs ys (segments_from c more));
}

pub passes_cons : (a : Bool) (x : ℕ) (b : Bool) (ys : List ℕ) (c : Bool) → Passes a (x ∷ []) b → Passes b ys c → Passes a (x ∷ ys) c
passes_cons a x b ys c first second = passes_append a (x ∷ []) b ys c first second

-- A text that is passed over outside strings and a semicolon are an ended segment.
pub segments_of_ended : (text more : List ℕ) → Passes false text false → segments_of (text ++ 59 ∷ more) ≡ with_segment text (segments_of more)
segments_of_ended text more passes = passes.passes (59 ∷ more) ∙ with_front-segment text [] (segments_of more)
    ∙ ap (λ t. with_segment t (segments_of more)) (append-nil text)

-- The segments, put together again.
abbrev pub join : List (List ℕ) → List ℕ → List ℕ
join [] rest = rest
join (segment ∷ segments) rest = segment ++ 59 ∷ join segments rest

abbrev pub join_of : Segments → List ℕ
join_of cut = join cut.ended cut.rest

join_byte : (b : ℕ) (ended : List (List ℕ)) (rest : List ℕ) → join_of (byte_onto b ended rest) ≡ b ∷ join ended rest
join_byte b [] rest = refl
join_byte b (segment ∷ segments) rest = refl

ends_is : (inside : Bool) (b : ℕ) → ends_segment inside b ≡ true → b ≡ 59
ends_is true b h = cc
ends_is false b h = eqb-true b 59 h

joined_if : (end inside : Bool) (b : ℕ) (bs : List ℕ) → ends_segment inside b ≡ end → bs ≡ join_of (segments_from false bs)
    → bs ≡ join_of (segments_from (inside_after inside b) bs)
    → b ∷ bs ≡ join_of (if end then with_segment [] (segments_from false bs) else with_byte b (segments_from (inside_after inside b) bs))
joined_if true inside b bs e outside on = ap (λ x. x ∷ bs) (ends_is inside b e) ∙ ap (λ t. 59 ∷ t) outside
joined_if false inside b bs e outside on = ap (λ t. b ∷ t) on
    ∙ sym (join_byte b (segments_from (inside_after inside b) bs).ended (segments_from (inside_after inside b) bs).rest)

pub joined : (text : List ℕ) (inside : Bool) → text ≡ join_of (segments_from inside text)
joined [] inside = refl
joined (b ∷ bs) inside = joined_if (ends_segment inside b) inside b bs refl (joined bs false) (joined bs (inside_after inside b))

-- No segment has a semicolon outside a string.
abbrev pub AreUncut : Bool → List (List ℕ) → Type 0
AreUncut inside [] = Unit {0}
AreUncut inside (segment ∷ segments) = (is_uncut inside segment ≡ true) × AreUncut false segments

uncut_byte : (inside : Bool) (b : ℕ) (ended : List (List ℕ)) (rest : List ℕ) → ends_segment inside b ≡ false → AreUncut (inside_after inside b) ended
    → AreUncut inside (byte_onto b ended rest).ended
uncut_byte inside b [] rest e h = tt
uncut_byte inside b (segment ∷ segments) rest e h = (rw e h.0, h.1)

uncut_if : (end inside : Bool) (b : ℕ) (bs : List ℕ) → ends_segment inside b ≡ end → AreUncut false (segments_from false bs).ended
    → AreUncut (inside_after inside b) (segments_from (inside_after inside b) bs).ended
    → AreUncut inside (if end then with_segment [] (segments_from false bs) else with_byte b (segments_from (inside_after inside b) bs)).ended
uncut_if true inside b bs e outside on = (refl, outside)
uncut_if false inside b bs e outside on =
    uncut_byte inside b (segments_from (inside_after inside b) bs).ended (segments_from (inside_after inside b) bs).rest e on

pub are_uncut : (text : List ℕ) (inside : Bool) → AreUncut inside (segments_from inside text).ended
are_uncut [] inside = tt
are_uncut (b ∷ bs) inside = uncut_if (ends_segment inside b) inside b bs refl (are_uncut bs false) (are_uncut bs (inside_after inside b))

-- The first segment of a text, looked for a byte at a time.
use Rattle.std.proofs.Common.{◌≡◌, ℕ, suc, ◌+◌, ◌<◌, ◌≤◌, add-one, List, [], ◌∷◌, ◌++◌, Bool, true}
use Rattle.std.proofs.Common.{false, length, refl, ap, sym, ◌∙◌, take, drop, drop-cons, get_or}
use Rattle.std.proofs.lemmas.List.{append-nil, drop_all, take_all, take_more}
use Rattle.chess_notation.specs.Segments.{Segments, with_byte, with_segment, inside_after, ends_segment, segments_from, segments_of}
use Rattle.chess_notation.proofs.SegmentCuts.{with_front, with_front-segment, with_front-none}

with_front-push : (front : List ℕ) (b : ℕ) (cut : Segments) → with_front (front ++ b ∷ []) cut ≡ with_front front (with_byte b cut)
with_front-push [] b cut = refl
with_front-push (x ∷ front) b cut = ap (with_byte x) (with_front-push front b cut)

-- What was passed over, in front of what is left.
abbrev pub IsCutSoFar : List ℕ → Bool → ℕ → Type 0
IsCutSoFar text inside i = with_front (take i text) (segments_from inside (drop i text)) ≡ segments_of text

cut_step : (inside : Bool) (b : ℕ) (bs : List ℕ) → ends_segment inside b ≡ false
    → segments_from inside (b ∷ bs) ≡ with_byte b (segments_from (inside_after inside b) bs)
cut_step inside b bs test = rw test refl

pub cut_more : (text : List ℕ) (inside : Bool) (i b : ℕ) → IsCutSoFar text inside i → i < length text → b ≡ get_or text i 0
    → ends_segment inside b ≡ false → IsCutSoFar text (inside_after inside b) (i + 1)
cut_more text inside i b so_far here at test =
    let split : drop i text ≡ b ∷ drop (suc i) text = drop-cons text i 0 here ∙ ap (λ x. x ∷ drop (suc i) text) (sym at) in
    let taken : take (i + 1) text ≡ take i text ++ b ∷ [] = take_more text i 0 here ∙ ap (λ x. take i text ++ x ∷ []) (sym at) in
    rw (taken, add-one, with_front-push) (ap (with_front (take i text))
    (sym (cut_step inside b (drop (suc i) text) test) ∙ ap (segments_from inside) (sym split)) ∙ so_far)

pub cut_here : (text : List ℕ) (inside : Bool) (i b : ℕ) → IsCutSoFar text inside i → i < length text → b ≡ get_or text i 0
    → ends_segment inside b ≡ true → segments_of text ≡ with_segment (take i text) (segments_of (drop (suc i) text))
cut_here text inside i b so_far here at test =
    let split : drop i text ≡ b ∷ drop (suc i) text = drop-cons text i 0 here ∙ ap (λ x. x ∷ drop (suc i) text) (sym at) in
    let step : segments_from inside (b ∷ drop (suc i) text) ≡ with_segment [] (segments_of (drop (suc i) text)) = rw test refl in
    sym so_far ∙ ap (λ t. with_front (take i text) (segments_from inside t)) split ∙ ap (with_front (take i text)) step
    ∙ with_front-segment (take i text) [] (segments_of (drop (suc i) text))
    ∙ ap (λ t. with_segment t (segments_of (drop (suc i) text))) (append-nil (take i text))

pub cut_none : (text : List ℕ) (inside : Bool) (i : ℕ) → IsCutSoFar text inside i → length text ≤ i
    → segments_of text ≡ record { ended = []; rest = text }
cut_none text inside i so_far end =
    sym so_far ∙ ap (λ t. with_front (take i text) (segments_from inside t)) (drop_all i text end) ∙ with_front-none
    (take i text) [] ∙ ap (λ t. record { ended = []; rest = t }) (append-nil (take i text) ∙ take_all i text end)

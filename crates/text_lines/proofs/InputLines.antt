-- The lines of an input, and how one is taken.
use Rattle.std.proofs.Common.{◌≡◌, ◌≢◌, ℕ, ◌+◌, ◌-◌, ◌<◌, ◌≤◌, ◌==◌, List, [], ◌∷◌, ◌++◌, Option, None, Some, false}
use Rattle.std.proofs.Common.{length, take, drop, get_or, refl, sym, ap, ◌∙◌, subst, arith, append_assoc, append-nil, min, ne_eqb, add-one, suc}
use Rattle.std.proofs.lemmas.List.{drop_min, take_all, take_more, take-append-drop, length-append}
use Rattle.std.proofs.lemmas.List.Elements.{All-append, All-cons, All-nil}
use Rattle.std.proofs.lemmas.List.Splits.{slice_split_none, slice_split_at}
use Rattle.std.proofs.KnownBytes.{Consumes-trans}
use Rattle.std.proofs.Math.Seq.{drop-append_seam, drop-cons}
use Rattle.std.specs.Io.KnownBytes.{Consumes, IsAtEnd, prepend_known}
use Rattle.text_lines.specs.Lines.{lines_of}
use Rattle.text_lines.specs.inside.InputLines.{IsOneLine}

pub one_line_nil : IsOneLine []
one_line_nil = All-nil (λ b. (b == 10) ≡ false)

pub one_line_append : (xs ys : List ℕ) → IsOneLine xs → IsOneLine ys → IsOneLine (xs ++ ys)
one_line_append xs ys = All-append (λ b. (b == 10) ≡ false) xs ys

pub one_line_more : (text : List ℕ) (i : ℕ) → i < length text → IsOneLine (take i text) → get_or text i 0 ≢ 10 → IsOneLine (take (i + 1) text)
one_line_more text i inside before other =
    let last : IsOneLine (get_or text i 0 ∷ []) =
    All-cons (λ b. (b == 10) ≡ false) (get_or text i 0) [] (ne_eqb (get_or text i 0) 10 other) one_line_nil in
    subst IsOneLine (sym (take_more text i 0 inside)) (one_line_append (take i text) (get_or text i 0 ∷ []) before last)

pub one_line_whole : (text : List ℕ) (i : ℕ) → length text ≤ i → IsOneLine (take i text) → IsOneLine text
one_line_whole text i past one = subst IsOneLine (take_all i text past) one

pub split_there : (text : List ℕ) (i : ℕ) → i < length text → get_or text i 0 ≡ 10 → text ≡ take i text ++ 10 ∷ drop (i + 1) text
split_there text i inside is =
    rw add-one (sym (take-append-drop i text) ∙ ap (λ l. take i text ++ l) (drop-cons text i 0 inside ∙ ap (λ b. b ∷ drop (suc i) text) is))

pub lines_one : (line : List ℕ) → IsOneLine line → lines_of line ≡ line ∷ []
lines_one line one = slice_split_none (λ b. b == 10) line one

pub lines_first : (line rest : List ℕ) → IsOneLine line → lines_of (line ++ 10 ∷ rest) ≡ line ∷ lines_of rest
lines_first line rest one = slice_split_at (λ b. b == 10) line 10 rest one refl

-- what is left of a piece behind its first line
pub piece_rest : (items left line more : List ℕ) (m : ℕ) → left ≡ drop m items → left ≡ line ++ 10 ∷ more
    → drop (length items - length more) items ≡ more
piece_rest items left line more m is cut =
    let front = take m items ++ (line ++ 10 ∷ []) in
    let whole : items ≡ front ++ more =
    sym (take-append-drop m items) ∙ ap (λ l. take m items ++ l) (sym is ∙ cut ∙ sym (append_assoc line (10 ∷ []) more))
    ∙ sym (append_assoc (take m items) (line ++ 10 ∷ []) more) in
    let count : length items - length more ≡ length front = omega (arith, ap length whole, length-append front more) in
    rw (count) (ap (drop (length front)) whole ∙ drop-append_seam front more)

-- ---- what is left of the input

pub takes_piece : (known : Option (List ℕ)) (piece : List ℕ) → Consumes (prepend_known piece known) (prepend_known [] known) piece
takes_piece None piece = tt
takes_piece (Some x) piece = refl

pub takes_ended : (known : Option (List ℕ)) (line rest : List ℕ)
    → Consumes (prepend_known (line ++ 10 ∷ rest) known) (prepend_known rest known) (line ++ 10 ∷ [])
takes_ended None line rest = tt
takes_ended (Some x) line rest = append_assoc line (10 ∷ rest) x ∙ sym (append_assoc line (10 ∷ []) (rest ++ x))

pub takes_on : (a b : Option (List ℕ)) (bytes : List ℕ) → Consumes a b bytes → Consumes (prepend_known [] a) (prepend_known bytes b) []
takes_on None b bytes on = tt
takes_on (Some x) None bytes on = absurd on
takes_on (Some x) (Some y) bytes on = on

pub end_taken : (a : Option (List ℕ)) (bytes : List ℕ) (start : ℕ) → start ≡ 0 → bytes ≡ [] → IsAtEnd a → IsAtEnd (prepend_known (drop start bytes) a)
end_taken None bytes start fresh none end = tt
end_taken (Some x) bytes start fresh none end = rw (fresh) (ap (λ l. l ++ x) none ∙ end)

-- what is not taken of a piece that was read
pub left_is : (read items left : List ℕ) (taken m : ℕ) → read ≡ items → left ≡ drop m read → m ≡ min taken (length read) → drop taken items ≡ left
left_is read items left taken m same cut is = rw (cut, is, ← same) (sym (drop_min taken read))

pub ended_line : (a known same : Option (List ℕ)) (seen left piece rest : List ℕ) → same ≡ known
    → Consumes a (prepend_known left known) seen → left ≡ piece ++ 10 ∷ rest
    → Consumes a (prepend_known rest same) ((seen ++ piece) ++ 10 ∷ [])
ended_line a known same seen left piece rest is before cut =
    let on : Consumes (prepend_known left known) (prepend_known rest same) (piece ++ 10 ∷ []) = rw (is, cut) (takes_ended known piece rest) in
    rw (append_assoc seen piece (10 ∷ [])) (Consumes-trans a (prepend_known left known) (prepend_known rest same) seen (piece ++ 10 ∷ []) before on)

pub open_line : (a known same next : Option (List ℕ)) (seen left bytes : List ℕ) (start : ℕ) → same ≡ known → start ≡ 0
    → Consumes a (prepend_known left known) seen → Consumes same next bytes → Consumes a (prepend_known (drop start bytes) next) (seen ++ left)
open_line a known same next seen left bytes start is fresh before read =
    let taken = Consumes-trans a (prepend_known left known) (prepend_known [] known) seen left before (takes_piece known left) in
    let on : Consumes (prepend_known [] known) (prepend_known bytes next) [] =
    takes_on known next bytes (subst (λ k. Consumes k next bytes) is read) in
    rw (fresh, ← append-nil (seen ++ left)) (Consumes-trans a (prepend_known [] known) (prepend_known bytes next) (seen ++ left) [] taken on)

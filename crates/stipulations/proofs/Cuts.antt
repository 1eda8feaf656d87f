-- A text is its first part, and what stands behind; the same of its words.
use Rattle.std.proofs.Common.{◌≡◌, ◌≢◌, ◌∙◌, ◌<◌, ◌≤◌, ℕ, suc, List, [], ◌∷◌, ◌++◌, Bool, true, false, refl, ap, sym, arith, length}
use Rattle.std.proofs.Common.{append_assoc, append-nil}
use Rattle.std.specs.Char.{is_ascii_alphabetic}
use Rattle.chess_board.specs.Characters.{char}
use Rattle.stipulations.specs.Parts.{closed, ends_part, parts_behind, parts_of}
use Rattle.stipulations.specs.Words.{words_behind, words_of}
use Rattle.stipulations.specs.inside.Cuts.{after, front, part_after, part_front}

step : (word bs : List ℕ) (b : ℕ) (is : Bool) → is_ascii_alphabetic b ≡ is
    → ((w : List ℕ) → words_behind w bs ≡ closed (w ++ front bs) ++ words_behind [] (after bs))
    → words_behind word (b ∷ bs) ≡ closed (word ++ front (b ∷ bs)) ++ words_behind [] (after (b ∷ bs))
step word bs b true is rest =
    rw is (rest (word ++ b ∷ []) ∙ ap (λ w. closed w ++ words_behind [] (after bs)) (append_assoc word (b ∷ []) (front bs)))
step word bs b false is rest = rw is (ap (λ w. closed w ++ words_behind [] bs) (sym (append-nil word)))

cut_behind : (text word : List ℕ) → words_behind word text ≡ closed (word ++ front text) ++ words_behind [] (after text)
cut_behind [] word = rw (append-nil word) (sym (append-nil (closed word)))
cut_behind (b ∷ bs) word = step word bs b (is_ascii_alphabetic b) refl (λ w. cut_behind bs w)

pub words_cut : (text : List ℕ) → words_of text ≡ closed (front text) ++ words_of (after text)
unfolding words_of
words_cut text = cut_behind text []

shorter_at : (bs : List ℕ) (b : ℕ) (is : Bool) → is_ascii_alphabetic b ≡ is → length (after bs) ≤ length bs → length (after (b ∷ bs)) < suc (length bs)
shorter_at bs b true is few = rw is (omega (arith, few))
shorter_at bs b false is few = rw is (omega arith)

few : (bs : List ℕ) → length (after bs) ≤ length bs
few [] = omega arith
few (b ∷ bs) = omega (arith, shorter_at bs b (is_ascii_alphabetic b) refl (few bs))

pub shorter : (text : List ℕ) → text ≢ [] → length (after text) < length text
shorter [] some = absurd (some refl)
shorter (b ∷ bs) some = shorter_at bs b (is_ascii_alphabetic b) refl (few bs)

part_step : (part bs : List ℕ) (before b : ℕ) (is : Bool) → ends_part before b bs ≡ is
    → ((w : List ℕ) → parts_behind w b bs ≡ closed (w ++ part_front b bs) ++ parts_behind [] (char " ") (part_after b bs))
    → parts_behind part before (b ∷ bs) ≡ closed (part ++ part_front before (b ∷ bs)) ++ parts_behind [] (char " ") (part_after before (b ∷ bs))
part_step part bs before b false is rest =
    rw is (rest (part ++ b ∷ []) ∙ ap (λ w. closed w ++ parts_behind [] (char " ") (part_after b bs)) (append_assoc part (b ∷ []) (part_front b bs)))
part_step part bs before b true is rest = rw is (ap (λ w. closed w ++ parts_behind [] (char " ") bs) (sym (append-nil part)))

part_behind : (text part : List ℕ) (before : ℕ)
    → parts_behind part before text ≡ closed (part ++ part_front before text) ++ parts_behind [] (char " ") (part_after before text)
part_behind [] part before = rw (append-nil part) (sym (append-nil (closed part)))
part_behind (b ∷ bs) part before = part_step part bs before b (ends_part before b bs) refl (λ w. part_behind bs w b)

pub parts_cut : (text : List ℕ) → parts_of text ≡ closed (part_front (char " ") text) ++ parts_of (part_after (char " ") text)
unfolding parts_of
parts_cut text = part_behind text [] (char " ")

part_shorter_at : (bs : List ℕ) (before b : ℕ) (is : Bool) → ends_part before b bs ≡ is → length (part_after b bs) ≤ length bs
    → length (part_after before (b ∷ bs)) < suc (length bs)
part_shorter_at bs before b false is few = rw is (omega (arith, few))
part_shorter_at bs before b true is few = rw is (omega arith)

part_few : (bs : List ℕ) (before : ℕ) → length (part_after before bs) ≤ length bs
part_few [] before = omega arith
part_few (b ∷ bs) before = omega (arith, part_shorter_at bs before b (ends_part before b bs) refl (part_few bs b))

pub part_shorter : (text : List ℕ) → text ≢ [] → length (part_after (char " ") text) < length text
part_shorter [] some = absurd (some refl)
part_shorter (b ∷ bs) some = part_shorter_at bs (char " ") b (ends_part (char " ") b bs) refl (part_few bs b)

-- The words of a text, one after the other.
use Rattle.std.proofs.Common.{◌≡◌, ◌≢◌, ℕ, zero, suc, ◌<◌, ◌≤◌, ◌+◌, ◌==◌, Bool, if◌then◌else◌, List, [], ◌∷◌, ◌++◌}
use Rattle.std.proofs.Common.{true, false, refl, ap, sym, ◌∙◌, arith, replicate, filter, length, append-nil}
use Rattle.std.specs.List.{All, slice_split}
use Rattle.std.proofs.lemmas.List.Elements.{All-nil, All-cons}
use Rattle.std.proofs.lemmas.List.Splits.{slice_split_none, slice_split_at}
use Rattle.std.proofs.lemmas.List.{length-append}
use mathlib.Core.Bool.{not}
use Rattle.chess_notation.specs.Words.{after_spaces, front_word, word_at, behind, is_empty_text, is_blank, words_in}
use Rattle.chess_notation.specs.Records.{HaveNoSpace, IsApart}
use Rattle.chess_notation.proofs.WordSplits.{not_byte, words_split, word_no_space, blank_is_spaces}

abbrev is_space : ℕ → Bool
is_space b = b == 32

no_spaces : (word : List ℕ) → HaveNoSpace word → All (λ b. is_space b ≡ false) word
no_spaces [] h = All-nil (λ b. is_space b ≡ false)
no_spaces (b ∷ bs) h = All-cons (λ x. is_space x ≡ false) b bs (not_byte b 32 h.0) (no_spaces bs h.1)

abbrev is_word : List ℕ → Bool
is_word word = not (is_empty_text word)

word_kept : (word : List ℕ) (words : List (List ℕ)) → word ≢ [] → filter is_word (word ∷ words) ≡ word ∷ filter is_word words
word_kept [] words some = absurd (some refl)
word_kept (b ∷ bs) words some = refl

pub words_spaces : (n : ℕ) (text : List ℕ) → words_in (replicate n 32 ++ text) ≡ words_in text
unfolding words_in
words_spaces zero text = refl
words_spaces (suc n) text = words_spaces n text

pub words_front : (word rest : List ℕ) → HaveNoSpace word → word ≢ [] → IsApart rest → words_in (word ++ rest) ≡ word ∷ words_in rest
unfolding words_in
words_front word [] bytes some apart =
    ap (λ t. filter is_word (slice_split is_space t)) (append-nil word)
    ∙ ap (filter is_word) (slice_split_none is_space word (no_spaces word bytes)) ∙ word_kept word [] some
words_front word (b ∷ rest) bytes some apart =
    let space : is_space b ≡ true = ap is_space apart in
    let cut : slice_split is_space (word ++ b ∷ rest) ≡ word ∷ slice_split is_space rest =
    slice_split_at is_space word b rest (no_spaces word bytes) space in
    let behind : filter is_word (slice_split is_space (b ∷ rest)) ≡ filter is_word (slice_split is_space rest) = rw apart refl in
    ap (filter is_word) cut ∙ word_kept word (slice_split is_space rest) some ∙ ap (λ ws. word ∷ ws) (sym behind)

-- A text that is not blank begins with a word.
solid_word_at : (space : Bool) (b : ℕ) (bs : List ℕ) → (b == 32) ≡ space → is_empty_text (if space then after_spaces bs else b ∷ bs) ≡ false
    → (is_empty_text (after_spaces bs) ≡ false → front_word (after_spaces bs) ≢ []) → front_word (if space then after_spaces bs else b ∷ bs) ≢ []
solid_word_at true b bs is solid rest = rest solid
solid_word_at false b bs is solid rest = λ e. let front : front_word (b ∷ bs) ≡ b ∷ front_word bs = rw is refl in cc

solid_word : (text : List ℕ) → is_empty_text (after_spaces text) ≡ false → front_word (after_spaces text) ≢ []
solid_word [] solid = cc
solid_word (b ∷ bs) solid = solid_word_at (b == 32) b bs refl solid (solid_word bs)

pub word_some : (text : List ℕ) → is_blank text ≡ false → word_at text ≢ []
unfolding word_at
word_some text solid = solid_word text solid

pub words_next : (text : List ℕ) → is_blank text ≡ false → words_in text ≡ word_at text ∷ words_in (behind text)
words_next text solid =
    let split = words_split text in
    ap words_in split.1 ∙ words_spaces split.0 (word_at text ++ behind text)
    ∙ words_front (word_at text) (behind text) (word_no_space text) (word_some text solid) split.2

pub no_words : (n : ℕ) → words_in (replicate n 32) ≡ []
unfolding words_in
no_words zero = refl
no_words (suc n) = no_words n

pub words_none : (text : List ℕ) → is_blank text ≡ true → words_in text ≡ []
words_none text blank = let spaces = blank_is_spaces text blank in ap words_in spaces.1 ∙ no_words spaces.0

some_long : (word : List ℕ) → word ≢ [] → 1 ≤ length word
some_long [] some = absurd (some refl)
some_long (b ∷ bs) some = omega arith

-- What is behind its first word is shorter.
pub behind_shorter : (text : List ℕ) → is_blank text ≡ false → length (behind text) < length text
behind_shorter text solid =
    let split = words_split text in
    let some = some_long (word_at text) (word_some text solid) in
    let front : List ℕ = replicate split.0 32 in
    let whole : length text ≡ length front + (length (word_at text) + length (behind text)) =
    ap length split.1 ∙ length-append front (word_at text ++ behind text) ∙ ap (λ n. length front + n) (length-append (word_at text) (behind text)) in
    omega (arith, whole, some)

pub behind_within : (text : List ℕ) → length (behind text) ≤ length text
behind_within text =
    let split = words_split text in
    let front : List ℕ = replicate split.0 32 in
    let whole : length text ≡ length front + (length (word_at text) + length (behind text)) =
    ap length split.1 ∙ length-append front (word_at text ++ behind text) ∙ ap (λ n. length front + n) (length-append (word_at text) (behind text)) in
    omega (arith, whole)

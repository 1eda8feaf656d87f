-- The lines of the input that has the lines of another joined.
use Rattle.std.proofs.Common.{◌≡◌, ◌-◌, ◌==◌, ◌&&◌, ℕ, zero, suc, Bool, true, false, not, List, [], ◌∷◌, ◌++◌, None, Option, Some, ap, append-nil, codes, cond, drop, length, map, refl, subst, sym, take, ◌∙◌}
use Rattle.std.specs.Prelude.{◌||◌, is_some, nat_lt}
use Rattle.std.proofs.lemmas.List.{map-append}
use Rattle.std.proofs.lemmas.List.Elements.{All-cons, All-nil}
use Rattle.std.specs.List.{prefix_len, list_all, onto_first}
use Rattle.std.proofs.lemmas.List.Folds.{list_all-append}
use Rattle.byte_streams.specs.Inputs.{MayBe}
use Rattle.chess_notation.specs.Records.{max_line}
use Rattle.chess_notation.specs.Words.{after_spaces, after_word, behind, word_at}
use Rattle.text_lines.specs.Lines.{lines_of, without_cr}
use Rattle.text_lines.specs.TakenLines.{AreAllOf, HasTaken, IsTakenAs}
use Rattle.text_lines.specs.inside.InputLines.{IsOneLine}
use Rattle.text_lines.specs.declared.taken_lines.TakenLine.{TakenLine}
use Rattle.text_lines.proofs.InputLines.{lines_first, lines_one}
use Rattle.text_lines.proofs.LinesTaken.{lines_begin}
use Rattle.chess_board.specs.declared.men.Kind.{Kind}
use Rattle.chess_board.specs.declared.men.Kind.TheVariants as kinds
use Rattle.lettered_placements.specs.Readings.{after_white, capital_read, letter_read, line_read, placement_length, text_read}
use Rattle.move_words.specs.Languages.{kind_of_letter}
use Rattle.move_words.specs.declared.languages.Letters.{Letters}
use Rattle.std.specs.Char.{is_ascii_whitespace, is_ascii_lowercase, is_ascii_uppercase, to_ascii_lowercase, to_ascii_uppercase}
use Rattle.mail_lines.specs.Labels.{bared, bared_behind, is_label}
use Rattle.mail_lines.specs.Mails.{added, begins_mail, ends_mail, is_headed_behind, line_in, lines_text, mailed, text_in, with_cr, with_mails}
use Rattle.byte_streams.specs.declared.stops.Stop.{Stop}
use Rattle.mail_lines.specs.inside.MailReplies.{BreakIn, MailRules}
use Rattle.mail_lines.specs.inside.OpenMails.{IsTextOf, ReadsFirst, reading_of, with_crs}
use Rattle.mail_lines.proofs.WrittenMails.{breaks_before}
use Rattle.mail_lines.proofs.MailTexts.{text_of_taken}

-- ---- texts with no newline in them

-- whether it has none
abbrev pub is_one : List ℕ → Bool
is_one text = list_all (λ b. not (b == 10)) text

abbrev pub are_ones : List (List ℕ) → Bool
are_ones lines = list_all is_one lines

and_left : (x y : Bool) → (x && y) ≡ true → x ≡ true
and_left true y both = refl
and_left false y both = cc

and_right : (x y : Bool) → (x && y) ≡ true → y ≡ true
and_right true y both = both
and_right false y both = cc

one_line_by : (newline : Bool) (b : ℕ) (bs : List ℕ) → (b == 10) ≡ newline → IsOneLine bs → not newline ≡ true → IsOneLine (b ∷ bs)
one_line_by true b bs is rest none = cc
one_line_by false b bs is rest none = All-cons (λ b. (b == 10) ≡ false) b bs is rest

one_line : (text : List ℕ) → is_one text ≡ true → IsOneLine text
one_line [] one = All-nil (λ b. (b == 10) ≡ false)
one_line (b ∷ bs) one =
    one_line_by (b == 10) b bs refl (one_line bs (and_right (not (b == 10)) (is_one bs) one)) (and_left (not (b == 10)) (is_one bs) one)

both_ones : (x y : Bool) → x ≡ true → y ≡ true → (x && y) ≡ true
both_ones x y one other = rw (one, other) refl

one_append : (xs ys : List ℕ) → is_one xs ≡ true → is_one ys ≡ true → is_one (xs ++ ys) ≡ true
one_append xs ys one other = list_all-append (λ b. not (b == 10)) xs ys ∙ both_ones (is_one xs) (is_one ys) one other

take_one : (n : ℕ) (text : List ℕ) → is_one text ≡ true → is_one (take n text) ≡ true
take_one zero text one = refl
take_one (suc n) [] one = refl
take_one (suc n) (b ∷ bs) one =
    both_ones (not (b == 10)) (is_one (take n bs)) (and_left (not (b == 10)) (is_one bs) one) (take_one n bs (and_right (not (b == 10)) (is_one bs) one))

either_one : (first : Bool) (xs ys : List ℕ) → is_one xs ≡ true → is_one ys ≡ true → is_one (cond first xs ys) ≡ true
either_one true xs ys one other = one
either_one false xs ys one other = other

without_one : (line : List ℕ) → is_one line ≡ true → is_one (without_cr line) ≡ true
without_one line one = either_one _ (take (length line - 1) line) line (take_one (length line - 1) line one) one

-- ---- lines of an input

onto_ones : (b : ℕ) (lines : List (List ℕ)) → (b == 10) ≡ false → are_ones lines ≡ true → are_ones (onto_first b lines) ≡ true
onto_ones b [] other ones = rw other refl
onto_ones b (line ∷ lines) other ones = rw other ones

split_ones_by : (newline : Bool) (b : ℕ) (lines : List (List ℕ)) → (b == 10) ≡ newline → are_ones lines ≡ true
    → are_ones (cond newline ([] ∷ lines) (onto_first b lines)) ≡ true
split_ones_by true b lines is ones = ones
split_ones_by false b lines is ones = onto_ones b lines is ones

split_ones : (input : List ℕ) → are_ones (lines_of input) ≡ true
split_ones [] = refl
split_ones (b ∷ bs) = split_ones_by (b == 10) b (lines_of bs) refl (split_ones bs)

-- ---- joined lines

spaces_one_by : (space : Bool) (b : ℕ) (bs : List ℕ) → is_one (after_spaces bs) ≡ true → is_one (b ∷ bs) ≡ true
    → is_one (cond space (after_spaces bs) (b ∷ bs)) ≡ true
spaces_one_by true b bs rest one = rest
spaces_one_by false b bs rest one = one

spaces_one : (text : List ℕ) → is_one text ≡ true → is_one (after_spaces text) ≡ true
spaces_one [] one = refl
spaces_one (b ∷ bs) one = spaces_one_by (b == 32) b bs (spaces_one bs (and_right (not (b == 10)) (is_one bs) one)) one

word_one_by : (space : Bool) (b : ℕ) (bs : List ℕ) → is_one (after_word bs) ≡ true → is_one (b ∷ bs) ≡ true
    → is_one (cond space (b ∷ bs) (after_word bs)) ≡ true
word_one_by true b bs rest one = one
word_one_by false b bs rest one = rest

word_one : (text : List ℕ) → is_one text ≡ true → is_one (after_word text) ≡ true
word_one [] one = refl
word_one (b ∷ bs) one = word_one_by (b == 32) b bs (word_one bs (and_right (not (b == 10)) (is_one bs) one)) one

behind_one : (text : List ℕ) → is_one text ≡ true → is_one (behind text) ≡ true
unfolding behind
behind_one text one = word_one (after_spaces text) (spaces_one text one)

bared_behind_one : (line rest : List ℕ) → is_one line ≡ true → is_one rest ≡ true → is_one (bared_behind line rest) ≡ true
bared_behind_one line rest one other = either_one _ (after_spaces rest) line (spaces_one rest other) one

bared_one : (line : List ℕ) → is_one line ≡ true → is_one (bared line) ≡ true
unfolding bared
bared_one line one =
    let rest = behind_one line one in
    either_one (nat_lt max_line (length line) || not (is_label (word_at line))) line
    (cond (is_label (word_at (behind line))) (bared_behind line (behind (behind line))) (bared_behind line (behind line))) one
    (either_one (is_label (word_at (behind line))) (bared_behind line (behind (behind line))) (bared_behind line (behind line)) (bared_behind_one line (behind (behind line)) one (behind_one (behind line) rest))
    (bared_behind_one line (behind line) one rest))

-- ---- lines with English letters

drop_one : (n : ℕ) (text : List ℕ) → is_one text ≡ true → is_one (drop n text) ≡ true
drop_one zero text one = one
drop_one (suc n) [] one = refl
drop_one (suc n) (b ∷ bs) one = drop_one n bs (and_right (not (b == 10)) (is_one bs) one)

capital_one : (kind : Option Kind) → not (capital_read kind == 10) ≡ true
capital_one None = refl
capital_one (Some kinds.Pawn) = refl
capital_one (Some kinds.Knight) = refl
capital_one (Some kinds.Bishop) = refl
capital_one (Some kinds.Rook) = refl
capital_one (Some kinds.Queen) = refl
capital_one (Some kinds.King) = refl

small_one : (kind : Option Kind) → not (to_ascii_lowercase (capital_read kind) == 10) ≡ true
small_one None = refl
small_one (Some kinds.Pawn) = refl
small_one (Some kinds.Knight) = refl
small_one (Some kinds.Bishop) = refl
small_one (Some kinds.Rook) = refl
small_one (Some kinds.Queen) = refl
small_one (Some kinds.King) = refl

either_byte : (first : Bool) (a b : ℕ) → not (a == 10) ≡ true → not (b == 10) ≡ true → not (cond first a b == 10) ≡ true
either_byte true a b one other = one
either_byte false a b one other = other

letter_one : (l : Letters) (b : ℕ) → not (b == 10) ≡ true → not (letter_read l b == 10) ≡ true
letter_one l b one =
    either_byte (is_some l.behind_king) b _ one
    (either_byte (is_ascii_uppercase b) (capital_read (kind_of_letter l b)) _ (capital_one (kind_of_letter l b))
    (either_byte (is_ascii_lowercase b) (to_ascii_lowercase (capital_read (kind_of_letter l (to_ascii_uppercase b)))) b
    (small_one (kind_of_letter l (to_ascii_uppercase b))) one))

letters_one : (l : Letters) (text : List ℕ) → is_one text ≡ true → is_one (map (letter_read l) text) ≡ true
letters_one l [] one = refl
letters_one l (b ∷ bs) one =
    both_ones _ _ (letter_one l b (and_left (not (b == 10)) (is_one bs) one)) (letters_one l bs (and_right (not (b == 10)) (is_one bs) one))

text_read_one : (l : Letters) (text : List ℕ) → is_one text ≡ true → is_one (text_read l text) ≡ true
text_read_one l text one =
    one_append (map (letter_read l) (take (placement_length text) text)) (drop (placement_length text) text)
    (letters_one l (take (placement_length text) text) (take_one (placement_length text) text one)) (drop_one (placement_length text) text one)

line_read_one : (l : Letters) (line : List ℕ) → is_one line ≡ true → is_one (line_read l line) ≡ true
unfolding line_read
line_read_one l line one =
    let white : ℕ = length line - length (after_white line) in
    one_append (take white line) (text_read l (after_white line)) (take_one white line one)
    (text_read_one l (after_white line) (drop_one (prefix_len is_ascii_whitespace line) line one))

line_in_one : (l : Letters) (line : List ℕ) → is_one line ≡ true → is_one (line_in l line) ≡ true
unfolding line_in
line_in_one l line one = either_one _ line (line_read l (bared line)) one (line_read_one l (bared line) (bared_one line one))

texts_ones : (l : Letters) (lines : List (List ℕ)) → are_ones lines ≡ true → are_ones (map (text_in l) lines) ≡ true
texts_ones l [] ones = refl
texts_ones l (line ∷ lines) ones =
    both_ones (is_one (text_in l line)) (are_ones (map (text_in l) lines))
    (line_in_one l (without_cr line) (without_one line (and_left (is_one line) (are_ones lines) ones)))
    (texts_ones l lines (and_right (is_one line) (are_ones lines) ones))

added_one : (lines : List (List ℕ)) → are_ones lines ≡ true → is_one (added lines) ≡ true
added_one [] ones = refl
added_one (line ∷ lines) ones =
    either_one (ends_mail line) [] (codes " ; " ++ (line ++ added lines)) refl
    (one_append (codes " ; ") (line ++ added lines) refl
    (one_append line (added lines) (and_left (is_one line) (are_ones lines) ones) (added_one lines (and_right (is_one line) (are_ones lines) ones))))

either_ones : (first : Bool) (xs ys : List (List ℕ)) → are_ones xs ≡ true → are_ones ys ≡ true → are_ones (cond first xs ys) ≡ true
either_ones true xs ys one other = one
either_ones false xs ys one other = other

mails_ones : (is_open is_headed : Bool) (lines : List (List ℕ)) → are_ones lines ≡ true → are_ones (with_mails is_open is_headed lines) ≡ true
mails_ones is_open is_headed [] ones = refl
mails_ones is_open is_headed (line ∷ lines) ones =
    let rest = and_right (is_one line) (are_ones lines) ones in
    let bare = bared_one line (and_left (is_one line) (are_ones lines) ones) in
    let opened : List (List ℕ) = (bared line ++ added lines) ∷ with_mails true false lines in
    let headed : Bool = is_headed_behind is_headed (bared line) in
    let alone : List (List ℕ) = bared line ∷ with_mails false headed lines in
    let begins : Bool = not is_headed && begins_mail (bared line) in
    either_ones (is_open && not (ends_mail line)) ([] ∷ with_mails true false lines) (cond begins opened alone)
    (mails_ones true false lines rest)
    (either_ones begins opened alone
    (both_ones (is_one (bared line ++ added lines)) (are_ones (with_mails true false lines))
    (one_append (bared line) (added lines) bare (added_one lines rest)) (mails_ones true false lines rest))
    (both_ones (is_one (bared line)) (are_ones (with_mails false headed lines)) bare (mails_ones false headed lines rest)))

-- ---- the text of lines

cr_one : (line : List ℕ) → is_one line ≡ true → IsOneLine (with_cr line)
cr_one line one = one_line (with_cr line) (one_append line (13 ∷ []) one refl)

text_lines_are : (line : List ℕ) (lines : List (List ℕ)) → are_ones (line ∷ lines) ≡ true → lines_of (lines_text (line ∷ lines)) ≡ with_crs (line ∷ lines)
text_lines_are line [] ones = lines_one (with_cr line) (cr_one line (and_left (is_one line) true ones))
text_lines_are line (next ∷ lines) ones =
    lines_first (with_cr line) (lines_text (next ∷ lines)) (cr_one line (and_left (is_one line) (are_ones (next ∷ lines)) ones))
    ∙ ap (λ ls. with_cr line ∷ ls) (text_lines_are next lines (and_right (is_one line) (are_ones (next ∷ lines)) ones))

abbrev IsFilled : List (List ℕ) → Type 0
IsFilled lines = (line : List ℕ) × (rest : List (List ℕ)) × (lines ≡ line ∷ rest)

either_filled : (first : Bool) (xs ys : List (List ℕ)) → IsFilled xs → IsFilled ys → IsFilled (cond first xs ys)
either_filled true xs ys one other = one
either_filled false xs ys one other = other

onto_filled : (b : ℕ) (lines : List (List ℕ)) → IsFilled lines → IsFilled (onto_first b lines)
onto_filled b lines (line, rest, is) = rw is (b ∷ line, rest, refl)

lines_filled : (input : List ℕ) → IsFilled (lines_of input)
lines_filled [] = ([], [], refl)
lines_filled (b ∷ bs) = either_filled (b == 10) ([] ∷ lines_of bs) (onto_first b (lines_of bs)) ([], lines_of bs, refl) (onto_filled b (lines_of bs) (lines_filled bs))

mails_filled : (line : List ℕ) (lines : List (List ℕ)) → IsFilled (with_mails false false (line ∷ lines))
mails_filled line lines =
    let headed : Bool = is_headed_behind false (bared line) in
    either_filled (begins_mail (bared line)) ((bared line ++ added lines) ∷ with_mails true false lines) (bared line ∷ with_mails false headed lines)
    (bared line ++ added lines, with_mails true false lines, refl) (bared line, with_mails false headed lines, refl)

texts_filled : (says : List ℕ → List ℕ) (input : List ℕ) → IsFilled (with_mails false false (map says (lines_of input)))
texts_filled says input =
    let (line, rest, is) = lines_filled input in
    subst (λ ls. IsFilled (with_mails false false (map says ls))) (sym is) (mails_filled (says line) (map says rest))

filled_text : (lines : List (List ℕ)) → IsFilled lines → are_ones lines ≡ true → lines_of (lines_text lines) ≡ with_crs lines
filled_text lines (line, rest, is) ones =
    subst (λ ls. lines_of (lines_text ls) ≡ with_crs ls) (sym is) (text_lines_are line rest (subst (λ ls. are_ones ls ≡ true) is ones))

pub mailed_lines : (l : Letters) (input : List ℕ) → lines_of (mailed l input) ≡ with_crs (with_mails false false (map (text_in l) (lines_of input)))
unfolding mailed
mailed_lines l input =
    let texts : List (List ℕ) = map (text_in l) (lines_of input) in
    filled_text (with_mails false false texts) (texts_filled (text_in l) input) (mails_ones false false texts (texts_ones l (lines_of input) (split_ones input)))

-- ---- by the lines that were taken

-- A known input begins with these lines, and another may.
abbrev pub BeginsWith : Option (List ℕ) → List (List ℕ) → Type 0
BeginsWith known lines = (bytes : List ℕ) × (more : List (List ℕ)) × MayBe known bytes × (lines_of bytes ≡ lines ++ more)

pub begins_taken : (known left : Option (List ℕ)) (lines : List (List ℕ)) → HasTaken known left lines → BeginsWith known lines
begins_taken known left lines taken = lines_begin known left lines taken

pub all_bytes : (known : Option (List ℕ)) (lines : List (List ℕ)) → AreAllOf known lines → (bytes : List ℕ) × MayBe known bytes × (lines_of bytes ≡ lines)
unfolding AreAllOf
all_bytes known lines all = all

begins_all : (known : Option (List ℕ)) (lines : List (List ℕ)) → AreAllOf known lines → BeginsWith known lines
unfolding AreAllOf
begins_all known lines (bytes, may, is) = (bytes, [], may, is ∙ sym (append-nil lines))

pub read_of_all : (l : Letters) (bytes : List ℕ) (taken : List (List ℕ)) (raw : List ℕ) → lines_of bytes ≡ taken ++ raw ∷ []
    → with_crs (reading_of (map (text_in l) taken) (text_in l raw ∷ [])) ≡ lines_of (mailed l bytes)
read_of_all l bytes taken raw is =
    sym (mailed_lines l bytes ∙ ap (λ ls. with_crs (with_mails false false ls)) (ap (map (text_in l)) is ∙ map-append (text_in l) taken (raw ∷ [])))

pub read_of_more : (l : Letters) (bytes : List ℕ) (taken more : List (List ℕ)) → lines_of bytes ≡ taken ++ more
    → lines_of (mailed l bytes) ≡ with_crs (reading_of (map (text_in l) taken) (map (text_in l) more))
read_of_more l bytes taken more is =
    mailed_lines l bytes ∙ ap (λ ls. with_crs (with_mails false false ls)) (ap (map (text_in l)) is ∙ map-append (text_in l) taken more)

module _ {M : Type 0} (rules : MailRules M) (old : M) where
  pub breaks_all : (l : Letters) (s : Stop) (a b : Option (List ℕ)) (bytes : List ℕ) (taken more now : List (List ℕ)) → lines_of bytes ≡ taken ++ more
      → ReadsFirst (reading_of (map (text_in l) taken)) now → BreakIn rules old s a b (with_crs now)
      → BreakIn rules old s a b (lines_of (mailed l bytes))
  breaks_all l s a b bytes taken more now is first broken =
      let (rest, reads) = first (map (text_in l) more) in
      subst (λ ls. BreakIn rules old s a b ls) (sym (read_of_more l bytes taken more is))
      (breaks_before rules old s a b now rest (reading_of (map (text_in l) taken) (map (text_in l) more)) reads broken)

pub taken_line : (known old new : Option (List ℕ)) (line : TakenLine) (last : Bool) (taken : List (List ℕ)) → HasTaken known old taken
    → (last ≡ false → (raw : List ℕ) × IsTakenAs line raw
    × ((k : Option (List ℕ)) (ls : List (List ℕ)) → HasTaken k old ls → HasTaken k new (ls ++ raw ∷ [])))
    → (last ≡ true → (raw : List ℕ) × IsTakenAs line raw
    × ((k : Option (List ℕ)) (ls : List (List ℕ)) → HasTaken k old ls → AreAllOf k (ls ++ raw ∷ [])))
    → (raw : List ℕ) × IsTextOf line (without_cr raw) × BeginsWith known (taken ++ raw ∷ [])
taken_line known old new line true taken has more end =
    let (raw, is, all) = end refl in (raw, text_of_taken line raw is, begins_all known (taken ++ raw ∷ []) (all known taken has))
taken_line known old new line false taken has more end =
    let (raw, is, all) = more refl in (raw, text_of_taken line raw is, begins_taken known new (taken ++ raw ∷ []) (all known taken has))

-- Lines with English letters.
use Rattle.std.proofs.Common.{◌≡◌, ◌==◌, ◌-◌, ◌+◌, ◌<◌, ℕ, Bool, true, false, List, [], ◌∷◌, ◌++◌, ap, append-nil, arith, cond, drop, eqb-true, length, lt-ltb, refl, take, ◌∙◌}
use Rattle.std.specs.Prelude.{◌||◌, if◌then◌else◌, nat_lt}
use Rattle.std.specs.Char.{is_ascii_whitespace}
use Rattle.std.specs.List.{prefix_len}
use Rattle.std.proofs.lemmas.List.{drop_all}
use Rattle.std.proofs.Math.Seq.{take-length}
use Rattle.chess_notation.specs.Words.{after_spaces, is_blank, is_empty_text}
use Rattle.lettered_placements.specs.Readings.{after_white, line_read, text_read}
use Rattle.chess_notation.specs.Records.{max_line}
use Rattle.move_words.specs.Languages.{is_english}
use Rattle.move_words.specs.declared.languages.Letters.{Letters}
use Rattle.mail_lines.specs.Labels.{bared}
use Rattle.mail_lines.specs.Mails.{line_in}
use Rattle.mail_lines.proofs.MailTexts.{bared_blank}

-- ---- a blank line is itself

white_if : (b : ℕ) (bs : List ℕ) (is_space : Bool) → (b == 32) ≡ is_space → is_empty_text (if is_space then after_spaces bs else b ∷ bs) ≡ true
    → (b ≡ 32) × (is_empty_text (after_spaces bs) ≡ true)
white_if b bs true is empty = (eqb-true b 32 is, empty)
white_if b bs false is empty = let no : false ≡ true = empty in cc

all_white : (line : List ℕ) → is_blank line ≡ true → prefix_len is_ascii_whitespace line ≡ length line
all_white [] is = refl
all_white (b ∷ bs) is =
    let (space, more) = white_if b bs (b == 32) refl is in
    let rest : prefix_len is_ascii_whitespace bs ≡ length bs = all_white bs more in
    let one : prefix_len is_ascii_whitespace (b ∷ bs) ≡ 1 + prefix_len is_ascii_whitespace bs =
    ap (λ x. if is_ascii_whitespace x then 1 + prefix_len is_ascii_whitespace bs else 0) space in
    omega (arith, one, rest)

pub blank_itself : (letters : Letters) (line : List ℕ) → is_blank line ≡ true → line_read letters line ≡ line
unfolding line_read
blank_itself letters line is =
    let none : after_white line ≡ [] = ap (λ n. drop n line) (all_white line is) ∙ drop_all (length line) line (omega arith) in
    let same : length line - 0 ≡ length line = omega arith in
    ap (λ rest. take (length line - length rest) line ++ text_read letters rest) none
    ∙ ap (λ n. take n line ++ []) same ∙ append-nil (take (length line) line) ∙ take-length line

either_read : (as_it_is : Bool) (letters : Letters) (line : List ℕ) → line_read letters (bared line) ≡ line
    → cond as_it_is line (line_read letters (bared line)) ≡ line
either_read true letters line same = refl
either_read false letters line same = same

pub blank_read : (letters : Letters) (line : List ℕ) → is_blank line ≡ true → line_in letters line ≡ line
unfolding line_in
blank_read letters line blank =
    either_read (is_english letters || nat_lt max_line (length line)) letters line
    (ap (line_read letters) (bared_blank line blank) ∙ blank_itself letters line blank)

-- So is one that is too long to be read.

or_long : (english long : Bool) → long ≡ true → (english || long) ≡ true
or_long true long is = refl
or_long false long is = is

pub long_read : (letters : Letters) (line : List ℕ) → max_line < length line → line_in letters line ≡ line
unfolding line_in
long_read letters line long = rw (or_long (is_english letters) (nat_lt max_line (length line)) (lt-ltb max_line (length line) long)) refl

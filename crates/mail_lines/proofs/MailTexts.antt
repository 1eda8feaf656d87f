-- What is known of lines of which only that is kept that they are blank, or too long.
use Rattle.std.proofs.Common.{◌≡◌, ◌<◌, ◌+◌, ◌==◌, ◌&&◌, ◌||◌, ℕ, Bool, true, false, not, List, [], ◌∷◌, ◌++◌, ap, arith, codes, cond, length, length-append, refl, subst, sym}
use Rattle.std.specs.Prelude.{nat_le, nat_lt}
use Rattle.std.specs.Char.{is_ascii_whitespace}
use Rattle.std.specs.List.{list_all}
use Rattle.std.proofs.lemmas.Bool.{eqb-true, lt-leb, lt-ltb}
use Rattle.std.proofs.Math.Bool.{or-true, and-false}
use Rattle.chess_notation.specs.Records.{max_line}
use Rattle.chess_notation.specs.Words.{after_spaces, front_word, is_blank, is_empty_text, word_at}
use Rattle.text_lines.specs.Lines.{without_cr}
use Rattle.text_lines.specs.TakenLines.{IsTakenAs}
use Rattle.text_lines.specs.declared.taken_lines.TakenLine.{TakenLine}
use Rattle.text_lines.specs.declared.taken_lines.TakenLine.TheVariants as taken
use Rattle.mail_lines.specs.Labels.{bared, is_label}
use Rattle.mail_lines.specs.Mails.{begins_mail, ends_mail, is_headed_behind}
use Rattle.mail_lines.specs.Placements.{begins_position, is_placement}
use Rattle.mail_lines.specs.inside.OpenMails.{IsTextOf}

-- ---- blank lines

white_by : (space : Bool) (b : ℕ) (bs : List ℕ) → (b == 32) ≡ space → (is_blank bs ≡ true → list_all is_ascii_whitespace bs ≡ true)
    → is_empty_text (cond space (after_spaces bs) (b ∷ bs)) ≡ true → list_all is_ascii_whitespace (b ∷ bs) ≡ true
white_by true b bs space rest blank =
    subst (λ c. list_all is_ascii_whitespace (c ∷ bs) ≡ true) (sym (eqb-true b 32 space)) (rest blank)
white_by false b bs space rest blank = cc

blank_white : (text : List ℕ) → is_blank text ≡ true → list_all is_ascii_whitespace text ≡ true
blank_white [] blank = refl
blank_white (b ∷ bs) blank = white_by (b == 32) b bs refl (blank_white bs) blank

pub blank_ends : (text : List ℕ) → is_blank text ≡ true → ends_mail text ≡ true
unfolding ends_mail
blank_ends text blank = rw (blank_white text blank) refl

empty_text : (text : List ℕ) → is_empty_text text ≡ true → text ≡ []
empty_text [] is = refl
empty_text (b ∷ bs) is = cc

no_word : (text : List ℕ) → is_blank text ≡ true → word_at text ≡ []
unfolding word_at
no_word text blank = ap front_word (empty_text (after_spaces text) blank)

no_position : (text : List ℕ) → is_blank text ≡ true → begins_position text ≡ false
unfolding begins_position is_placement
no_position text blank = rw (no_word text blank) refl

pub blank_begins_none : (text : List ℕ) → is_blank text ≡ true → begins_mail text ≡ false
unfolding begins_mail
blank_begins_none text blank = rw (no_position text blank, and-false (nat_le (length text) max_line)) refl

pub mail_filled : (headed : Bool) (text : List ℕ) → (not headed && begins_mail text) ≡ true → is_blank text ≡ false
mail_filled true text begins = cc
mail_filled false text begins = by_blank (is_blank text) refl
  where
    by_blank : (blank : Bool) → is_blank text ≡ blank → is_blank text ≡ false
    by_blank true is = let none = blank_begins_none text is in cc
    by_blank false is = is

pub blank_heads_none : (headed : Bool) (text : List ℕ) → is_blank text ≡ true → is_headed_behind headed text ≡ false
unfolding is_headed_behind
blank_heads_none headed text blank = rw (blank_white text blank) refl

bared_if : (long label : Bool) (line other : List ℕ) → label ≡ false → (cond (long || not label) line other) ≡ line
bared_if true label line other none = refl
bared_if false label line other none = rw none refl

pub bared_blank : (text : List ℕ) → is_blank text ≡ true → bared text ≡ text
unfolding bared is_label
bared_blank text blank = bared_if (nat_lt max_line (length text)) (is_label (word_at text)) text _ (rw (no_word text blank) refl)

filled_by : (space : Bool) (b : ℕ) (xs ys : List ℕ) → (is_blank xs ≡ false → is_blank (xs ++ ys) ≡ false)
    → is_empty_text (cond space (after_spaces xs) (b ∷ xs)) ≡ false → is_empty_text (cond space (after_spaces (xs ++ ys)) (b ∷ (xs ++ ys))) ≡ false
filled_by true b xs ys rest filled = rest filled
filled_by false b xs ys rest filled = refl

pub filled_append : (xs ys : List ℕ) → is_blank xs ≡ false → is_blank (xs ++ ys) ≡ false
filled_append [] ys filled = cc
filled_append (b ∷ xs) ys filled = filled_by (b == 32) b xs ys (filled_append xs ys) filled

-- ---- lines that are too long

pub long_ends : (text : List ℕ) → max_line < length text → ends_mail text ≡ true
unfolding ends_mail
long_ends text long = rw (lt-ltb max_line (length text) long, or-true (list_all is_ascii_whitespace text)) refl

pub long_begins_none : (text : List ℕ) → max_line < length text → begins_mail text ≡ false
unfolding begins_mail
long_begins_none text long = rw (lt-leb (length text) max_line long) refl

pub long_heads_none : (headed : Bool) (text : List ℕ) → max_line < length text → is_headed_behind headed text ≡ false
unfolding is_headed_behind
long_heads_none headed text long = rw (lt-leb (length text) max_line long, and-false (not (list_all is_ascii_whitespace text))) refl

pub bared_long : (text : List ℕ) → max_line < length text → bared text ≡ text
unfolding bared
bared_long text long = rw (lt-ltb max_line (length text) long) refl

-- ---- a text that takes on another

pub joined_long : (bytes before more : List ℕ) → bytes ≡ before → is_blank before ≡ false → max_line < length bytes + (length more + 3)
    → IsTextOf taken.Long (before ++ (codes " ; " ++ more))
joined_long bytes before more is filled long =
    (filled_append before _ filled, omega (arith, ap length is, length-append before (codes " ; " ++ more), length-append (codes " ; ") more, long))

pub joined_longer : (before more : List ℕ) → (is_blank before ≡ false) × (max_line < length before)
    → IsTextOf taken.Long (before ++ (codes " ; " ++ more))
joined_longer before more (filled, long) = (filled_append before _ filled, omega (arith, length-append before (codes " ; " ++ more), long))

pub never_blank : {A : Type 0} (text : List ℕ) → is_blank text ≡ false → is_blank text ≡ true → A
never_blank text filled blank = absurd (no (filled) (blank))
  where
    no : is_blank text ≡ false → is_blank text ≡ true → ⊥
    no f b = cc

-- ---- what is kept of a line is kept of its text

pub text_of_taken : (line : TakenLine) (raw : List ℕ) → IsTakenAs line raw → IsTextOf line (without_cr raw)
text_of_taken taken.Blank raw is = is
text_of_taken taken.Long raw is = is
text_of_taken (taken.Text bytes) raw is = is.1

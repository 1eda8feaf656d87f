-- Bytes that the texts of an answer are made of.
use Rattle.std.proofs.Common.{◌≡◌, ◌≢◌, ℕ, ◌≤◌, nat_le, List, [], ◌∷◌, ◌++◌, Bool, true, false, ◌&&◌, ◌||◌, All, length, refl, ap, sym, ◌∙◌, arith}
use Rattle.std.proofs.lemmas.Bool.{and_parts}
use Rattle.std.proofs.lemmas.Bool.Decides.{nat_tests}
use Rattle.std.proofs.lemmas.List.Folds.{list_all-append}
use Rattle.std.proofs.lemmas.List.Elements.{All-head, All-tail}
use Rattle.std.specs.List.{list_all}
use Rattle.chess_board.specs.Laws.{IsVisible, IsVisibleWord}
use Rattle.chess_notation.specs.Operations.{is_in_range, is_digit, is_letter, is_opcode_byte, is_opcode, is_printable, AreWordBytes}
use Rattle.chess_notation.specs.Records.{HaveNoSpace, IsWord}

-- both parts pass a test where the whole does, and the other way round
pub list_all-parts : (f : ℕ → Bool) (xs ys : List ℕ) → list_all f (xs ++ ys) ≡ true → (list_all f xs ≡ true) × (list_all f ys ≡ true)
list_all-parts f xs ys h = and_parts (list_all f xs) (list_all f ys) (sym (list_all-append f xs ys) ∙ h)

pub list_all-both : (f : ℕ → Bool) (xs ys : List ℕ) → list_all f xs ≡ true → list_all f ys ≡ true → list_all f (xs ++ ys) ≡ true
list_all-both f xs ys h k = list_all-append f xs ys ∙ rw (h, k) refl

list_all-weaker : (f g : ℕ → Bool) → ((b : ℕ) → f b ≡ true → g b ≡ true) → (xs : List ℕ) → list_all f xs ≡ true → list_all g xs ≡ true
list_all-weaker f g weaker [] h = refl
list_all-weaker f g weaker (x ∷ xs) h =
    let both = and_parts (f x) (list_all f xs) h in
    rw (weaker x both.0, list_all-weaker f g weaker xs both.1) refl

pub is_between_from : (low high b : ℕ) → low ≤ b → b ≤ high → is_in_range low high b ≡ true
is_between_from low high b from to = grind (arith, nat_tests)

-- a visible byte that is no quotation mark and no semicolon: what moves, numbers and opcodes are written with
abbrev pub is_plain : ℕ → Bool
is_plain b = is_in_range 35 58 b || is_in_range 60 126 b

pub is_plain_low : (b : ℕ) → 35 ≤ b → b ≤ 58 → is_plain b ≡ true
is_plain_low b from to = rw (is_between_from 35 58 b from to) refl

pub is_plain_high : (b : ℕ) → 60 ≤ b → b ≤ 126 → is_plain b ≡ true
is_plain_high b from to = grind (arith, nat_tests)

plain_printable : (b : ℕ) → is_plain b ≡ true → is_printable b ≡ true
plain_printable b h = grind (arith, nat_tests)

plain_other : (b x : ℕ) → is_plain x ≡ false → is_plain b ≡ true → b ≢ x
plain_other b x fails h e = let passes : is_plain x ≡ true = sym (ap is_plain e) ∙ h in cc

pub plain_word_bytes : (bs : List ℕ) → list_all is_plain bs ≡ true → AreWordBytes bs
plain_word_bytes [] h = tt
plain_word_bytes (b ∷ bs) h =
    let both = and_parts (is_plain b) (list_all is_plain bs) h in
    (plain_other b 32 refl both.0, plain_other b 34 refl both.0, plain_other b 59 refl both.0, plain_word_bytes bs both.1)

pub plain_all_printable : (bs : List ℕ) → list_all is_plain bs ≡ true → list_all is_printable bs ≡ true
plain_all_printable bs h = list_all-weaker is_plain is_printable plain_printable bs h

digit_plain : (b : ℕ) → is_digit b ≡ true → is_plain b ≡ true
digit_plain b h = grind (arith, nat_tests)

pub digits_plain : (bs : List ℕ) → list_all is_digit bs ≡ true → list_all is_plain bs ≡ true
digits_plain bs h = list_all-weaker is_digit is_plain digit_plain bs h

opcode_byte_printable : (b : ℕ) → is_opcode_byte b ≡ true → is_printable b ≡ true
opcode_byte_printable b h = grind (arith, nat_tests)

pub opcode_printable : (word : List ℕ) → is_opcode word ≡ true → list_all is_printable word ≡ true
opcode_printable [] h = refl
opcode_printable (b ∷ bs) h =
    let both = and_parts (is_letter b) (nat_le (length bs) 14 && list_all is_opcode_byte bs) h in
    let more = and_parts (nat_le (length bs) 14) (list_all is_opcode_byte bs) both.1 in
    let first = opcode_byte_printable b (rw both.0 refl) in
    rw (first, list_all-weaker is_opcode_byte is_printable opcode_byte_printable bs more.1) refl

-- A visible word is a word of a line, and printable.
pub visible_word : (text : List ℕ) → IsVisibleWord text → IsWord text × (list_all is_printable text ≡ true)
visible_word text h = ((h.0, no_space text h.1), printable text h.1) where
  no_space : (bs : List ℕ) → All IsVisible bs → HaveNoSpace bs
  no_space [] all = tt
  no_space (b ∷ bs) all = ((λ e. let here = All-head IsVisible b bs all in omega (arith, here.0)), no_space bs (All-tail IsVisible b bs all))

  printable : (bs : List ℕ) → All IsVisible bs → list_all is_printable bs ≡ true
  printable [] all = refl
  printable (b ∷ bs) all =
      let here = All-head IsVisible b bs all in
      rw (is_between_from 32 126 b (omega (arith, here.0)) (omega (arith, here.1)), printable bs (All-tail IsVisible b bs all)) refl

-- The set of the squares on which what stands passes a test, and the word of the men that pass it: they are one.
use Rattle.std.proofs.Common.{◌≡◌, ℕ, zero, suc, ◌+◌, ◌*◌, ◌/◌, ◌%◌, ◌^◌, ◌<◌, min, max, Bool, true, false}
use Rattle.std.proofs.Common.{not, ◌&&◌, ◌||◌, cond, eqb, List, [], ◌∷◌, Option, None, length, get_or, set}
use Rattle.std.proofs.Common.{get_or-set_same, get_or-set_other, length-set, refl, sym, ap, ◌∙◌, arith}
use Rattle.std.specs.Int.{bit_at}
use Rattle.std.specs.Int.RustNames.{bit_and, bit_or}
use Rattle.std.proofs.lemmas.Bool.Decides.{nat_tests}
use Rattle.std.proofs.lemmas.Bool.{eqb-true, eqb-false}
use Rattle.std.proofs.lemmas.Nat.Bits.{bit_at_lowest, bit_at-suc, bit_at-lt, bit_at_and, bit_at_or, same_from_bits_below}
use native.Mathlib.Numerals.{unary_clauses}
use Rattle.square_sets.specs.Members.{has}
use Rattle.chess_board.specs.declared.men.Man.{Man}
use Rattle.chess_board.specs.Positions.{man_at}
use Rattle.chess_board.specs.Sets.{IsSetOf}
use Rattle.chess_board.specs.inside.Boards.{word_of}

-- members of two sets
and_test : (x y : ℕ) → x < 2 → y < 2 → eqb (min x y) 1 ≡ (eqb x 1 && eqb y 1)
and_test x y h k = grind (arith, nat_tests)

or_test : (x y : ℕ) → x < 2 → y < 2 → eqb (max x y) 1 ≡ (eqb x 1 || eqb y 1)
or_test x y h k = grind (arith, nat_tests)

pub has-bit_and : (a b square : ℕ) → has (bit_and a b) square ≡ (has a square && has b square)
has-bit_and a b square =
    rw (bit_at_and a b square) (and_test (bit_at a square) (bit_at b square) (bit_at-lt a square) (bit_at-lt b square))

pub has-bit_or : (a b square : ℕ) → has (bit_or a b) square ≡ (has a square || has b square)
has-bit_or a b square =
    rw (bit_at_or a b square) (or_test (bit_at a square) (bit_at b square) (bit_at-lt a square) (bit_at-lt b square))

-- a word is told by its members
same_bit : (x y : ℕ) → x < 2 → y < 2 → eqb x 1 ≡ eqb y 1 → x ≡ y
same_bit x y h k same = grind (arith, nat_tests)

same_set : (a b : ℕ) → a < 2 ^ 64 → b < 2 ^ 64 → ((square : ℕ) → square < 64 → has a square ≡ has b square) → a ≡ b
same_set a b small low same =
    same_from_bits_below 64 a b small low (λ s inside. same_bit (bit_at a s) (bit_at b s) (bit_at-lt a s) (bit_at-lt b s) (same s inside))

-- the word of the men that pass a test
low : (b : Bool) (w : ℕ) → eqb ((cond b 1 0 + 2 * w) % 2) 1 ≡ b
low true w = let e : (1 + 2 * w) % 2 ≡ 1 = omega arith in rw e
low false w = let e : (0 + 2 * w) % 2 ≡ 0 = omega arith in rw e

high : (b : Bool) (w : ℕ) → (cond b 1 0 + 2 * w) / 2 ≡ w
high true w = omega arith
high false w = omega arith

has-word_of : (test : Option Man → Bool) (men : List (Option Man)) (square : ℕ) → square < length men
    → has (word_of test men) square ≡ test (man_at men square)
unfolding word_of
has-word_of test [] square inside = absurd (omega arith)
has-word_of test (place ∷ places) zero inside =
    rw (bit_at_lowest (cond (test place) 1 0 + 2 * word_of test places)) (low (test place) (word_of test places))
has-word_of test (place ∷ places) (suc square) inside =
    rw (bit_at-suc (cond (test place) 1 0 + 2 * word_of test places) square, high (test place) (word_of test places))
    (has-word_of test places square (omega arith))

pow-suc_two : (n : ℕ) → 2 ^ suc n ≡ 2 * 2 ^ n
pow-suc_two n = simp unary_clauses (omega arith)

word_of-lt : (test : Option Man → Bool) (men : List (Option Man)) → word_of test men < 2 ^ length men
unfolding word_of
word_of-lt test [] = omega arith
word_of-lt test (place ∷ places) =
    let p : 2 ^ suc (length places) ≡ 2 * 2 ^ length places = pow-suc_two (length places) in
    elim (test place) as (λ b. cond b 1 0 + 2 * word_of test places < 2 ^ suc (length places)) [
      | true ↦ omega (arith, p, word_of-lt test places)
      | false ↦ omega (arith, p, word_of-lt test places)
    ]

pub word_of-fits : (test : Option Man → Bool) (men : List (Option Man)) → length men ≡ 64 → word_of test men < 2 ^ 64
word_of-fits test men long = rw long at (word_of-lt test men)

pub IsSetOf-word_of : (test : Option Man → Bool) (men : List (Option Man)) (word : ℕ) → length men ≡ 64 → word_of test men ≡ word
    → IsSetOf word test men
IsSetOf-word_of test men word long same square inside = ap (λ (w : ℕ). has w square) (sym same) ∙ has-word_of test men square (omega arith)

pub word_of-IsSetOf : (test : Option Man → Bool) (men : List (Option Man)) (word : ℕ) → length men ≡ 64 → word < 2 ^ 64
    → IsSetOf word test men → word_of test men ≡ word
word_of-IsSetOf test men word long small is =
    let fits : word_of test men < 2 ^ 64 = rw long at (word_of-lt test men) in
    same_set (word_of test men) word fits small (λ s inside. has-word_of test men s (omega arith) ∙ sym (is s inside))

-- The new set is the old one, but for one square, which is a member or not.
abbrev pub IsChanged : ℕ → ℕ → ℕ → Bool → Type 0
IsChanged old new square member = (new < 2 ^ 64) × ((s : ℕ) → s < 64 → has new s ≡ cond (eqb s square) member (has old s))

pub word_of-set : (test : Option Man → Bool) (men : List (Option Man)) (old new square : ℕ) (place : Option Man) → length men ≡ 64
    → square < 64 → word_of test men ≡ old → IsChanged old new square (test place) → word_of test (set men square place) ≡ new
word_of-set test men old new square place long on same changed =
    word_of-IsSetOf test (set men square place) new (length-set men square place ∙ long) changed.0
    (λ s inside. changed.1 s inside
    ∙ ((elim (eqb s square) as (λ b. eqb s square ≡ b → cond b (test place) (has old s) ≡ test (get_or (set men square place) s None)) [
      | true ↦ λ e. let it = eqb-true s square e in let within : square < length men = omega arith in rw it (rw get_or-set_same)
      | false ↦ λ e. let ne = eqb-false s square e in rw get_or-set_other (IsSetOf-word_of test men old long same s inside)
    ]) refl))

pub IsChanged-without : (old new square at : ℕ) → at ≡ square → new < 2 ^ 64
    → ((s : ℕ) → s < 64 → has new s ≡ (not (eqb s at) && has old s)) → IsChanged old new square false
IsChanged-without old new square at here small cleared =
    (small, (λ s inside. cleared s inside ∙ rw here (without (eqb s square) (has old s))))
  where
    without : (b c : Bool) → (not b && c) ≡ cond b false c
    without true c = refl
    without false c = refl

pub IsChanged-where : (old new square at : ℕ) (member asked : Bool) → at ≡ square → member ≡ asked → new < 2 ^ 64
    → ((s : ℕ) → s < 64 → has new s ≡ cond (eqb s at) member (has old s)) → IsChanged old new square asked
IsChanged-where old new square at member asked here same small changed =
    (small, (λ s inside. changed s inside ∙ rw (here, same)))

-- sets of two tests
pub IsSetOf-bit_and : (a b : ℕ) (p q r : Option Man → Bool) (men : List (Option Man)) → ((place : Option Man) → (p place && q place) ≡ r place)
    → IsSetOf a p men → IsSetOf b q men → IsSetOf (bit_and a b) r men
IsSetOf-bit_and a b p q r men same first second s inside = rw (has-bit_and a b s, first s inside, second s inside) (same (man_at men s))

pub IsSetOf-bit_or : (a b : ℕ) (p q r : Option Man → Bool) (men : List (Option Man)) → ((place : Option Man) → (p place || q place) ≡ r place)
    → IsSetOf a p men → IsSetOf b q men → IsSetOf (bit_or a b) r men
IsSetOf-bit_or a b p q r men same first second s inside = rw (has-bit_or a b s, first s inside, second s inside) (same (man_at men s))

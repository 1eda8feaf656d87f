-- The reader of a rank undoes the letters and digits of `Placement`, and takes no other bytes.
use Rattle.std.proofs.Common.{◌≡◌, ℕ, zero, suc, ◌+◌, ◌-◌, ◌<◌, ◌≤◌, [], ◌∷◌, Bool, true, false, refl}
use Rattle.std.proofs.Common.{ap, sym, ◌∙◌, arith, Option, Some, None, nat_lt, if◌then◌else◌}
use Rattle.std.proofs.lemmas.Bool.Decides.{nat_tests}
use Rattle.chess_board.specs.declared.men.Colour.{Colour}
use Rattle.chess_board.specs.declared.men.Colour.TheVariants.{White, Black}
use Rattle.chess_board.specs.declared.men.Kind.{Kind}
use Rattle.chess_board.specs.declared.men.Kind.TheVariants.{Pawn, Knight, Bishop, Rook, Queen, King}
use Rattle.chess_board.specs.declared.men.Man.{Man}
use Rattle.chess_board.specs.Placement.{kind_letter, coloured_letter, man_letter, run_text}
use Rattle.chess_board.specs.inside.RankReading.{kind_of_letter, man_as, man_of_letter, is_run_digit}

-- A man's letter is read as the man.
pub man_of_letter-man_letter : (man : Man) → man_of_letter (man_letter man) ≡ Some man
man_of_letter-man_letter man = by_cases man.colour man.kind where
  by_cases : (colour : Colour) (kind : Kind) → man_of_letter (coloured_letter colour kind) ≡ Some (record { colour = colour; kind = kind })
  by_cases White Pawn = refl
  by_cases White Knight = refl
  by_cases White Bishop = refl
  by_cases White Rook = refl
  by_cases White Queen = refl
  by_cases White King = refl
  by_cases Black Pawn = refl
  by_cases Black Knight = refl
  by_cases Black Bishop = refl
  by_cases Black Rook = refl
  by_cases Black Queen = refl
  by_cases Black King = refl

-- Every letter lies above the digits.
pub man_letter_above : (man : Man) → 65 < man_letter man
man_letter_above man = by_cases man.colour man.kind where
  by_cases : (colour : Colour) (kind : Kind) → 65 < coloured_letter colour kind
  by_cases White Pawn = omega arith
  by_cases White Knight = omega arith
  by_cases White Bishop = omega arith
  by_cases White Rook = omega arith
  by_cases White Queen = omega arith
  by_cases White King = omega arith
  by_cases Black Pawn = omega arith
  by_cases Black Knight = omega arith
  by_cases Black Bishop = omega arith
  by_cases Black Rook = omega arith
  by_cases Black Queen = omega arith
  by_cases Black King = omega arith

pub is_run_digit-man_letter : (man : Man) → is_run_digit (man_letter man) ≡ false
is_run_digit-man_letter man = let above : 65 < man_letter man = man_letter_above man in grind (arith, nat_tests)

kind_spelt : (b : ℕ) (kind : Kind) → kind_of_letter b ≡ Some kind → kind_letter kind ≡ b
kind_spelt b Pawn read = grind (arith, nat_tests)
kind_spelt b Knight read = grind (arith, nat_tests)
kind_spelt b Bishop read = grind (arith, nat_tests)
kind_spelt b Rook read = grind (arith, nat_tests)
kind_spelt b Queen read = grind (arith, nat_tests)
kind_spelt b King read = grind (arith, nat_tests)

kind_of_man : (colour : Colour) (o : Option Kind) (man : Man) → man_as colour o ≡ Some man → (man.colour ≡ colour) × (o ≡ Some man.kind)
kind_of_man colour None man e = cc
kind_of_man colour (Some kind) man e =
    let same : record { colour = colour; kind = kind } ≡ man = cc in
    (ap (λ m. m.colour) (sym same), ap (λ m. Some m.kind) same)

man_spelt_if : (capital : Bool) (b : ℕ) (man : Man) → capital ≡ nat_lt b 97 → (if capital then man_as White (kind_of_letter b)
    else man_as Black (kind_of_letter (b - 32))) ≡ Some man → man_letter man ≡ b
man_spelt_if true b man capital e =
    let told = kind_of_man White (kind_of_letter b) man e in
    ap (λ c. coloured_letter c man.kind) told.0 ∙ kind_spelt b man.kind told.1
man_spelt_if false b man capital e =
    let told = kind_of_man Black (kind_of_letter (b - 32)) man e in
    let small : 97 ≤ b = grind (arith, nat_tests) in
    ap (λ c. coloured_letter c man.kind) told.0 ∙ omega (arith, kind_spelt (b - 32) man.kind told.1)

-- A byte that is read as a man is that man's letter.
pub man_spelt : (b : ℕ) (man : Man) → man_of_letter b ≡ Some man → man_letter man ≡ b
man_spelt b man e = man_spelt_if (nat_lt b 97) b man refl e

run_some : (n b : ℕ) → 0 < n → b ≡ 48 + n → run_text n ≡ b ∷ []
run_some zero b positive e = absurd (omega arith)
run_some (suc n) b positive e = ap (λ x. x ∷ []) (sym e)

-- A byte that is read as a run is the run's digit.
pub run_spelt : (b : ℕ) → is_run_digit b ≡ true → run_text (b - 48) ≡ b ∷ []
run_spelt b digit = let low : 48 < b = grind (arith, nat_tests) in run_some (b - 48) b (omega arith) (omega arith)

pub is_run_digit-digit : (n : ℕ) → 0 < n → n ≤ 8 → is_run_digit (48 + n) ≡ true
is_run_digit-digit n positive short = grind (arith, nat_tests)

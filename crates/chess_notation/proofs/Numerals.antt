-- A number in decimal is digits, few and at least one, that stand for it.
use Rattle.std.proofs.Common.{◌≡◌, ◌≢◌, ℕ, zero, suc, ◌+◌, ◌-◌, ◌*◌, ◌/◌, ◌%◌, ◌<◌, ◌≤◌, ◌==◌, nat_lt, List, []}
use Rattle.std.proofs.Common.{◌∷◌, true, false, length, fold, decimal, refl, ap, sym, ◌∙◌, arith, if◌then◌else◌}
use Rattle.std.proofs.lemmas.Bool.Decides.{nat_tests}
use Rattle.std.specs.List.{list_all}
use Rattle.std.specs.Fmt.{digits_onto, digit_glyph, digits}
use Rattle.chess_board.specs.Fields.{digits_value}
use Rattle.chess_notation.specs.Operations.{is_digit}
use Rattle.chess_notation.proofs.PlainBytes.{is_between_from}

-- the last digit
abbrev last : ℕ → ℕ
last n = digit_glyph false (n % 10)

last_is : (n : ℕ) → last n ≡ 48 + n % 10
last_is n =
    let small : nat_lt (n % 10) 10 ≡ true = let below : n % 10 < 10 = omega arith in grind (arith, nat_tests) in
    rw small refl

last_digit : (n : ℕ) → is_digit (last n) ≡ true
last_digit n = rw (last_is n) (is_between_from 48 57 (48 + n % 10) (omega arith) (omega arith))

-- one digit more: the number has no other, or they are those of its tenth
digits_onto_suc : (P : List ℕ → Type 0) (k n : ℕ) (after : List ℕ) → (n < 10 → P (last n ∷ after))
    → (10 ≤ n → P (digits_onto k 10 false (n / 10) (last n ∷ after)))
    → P (digits_onto (suc k) 10 false n after)
digits_onto_suc P k n after one more =
    (elim (n / 10 == 0) as (λ b. (n / 10 == 0) ≡ b → P (if b then last n ∷ after else digits_onto k 10 false (n / 10) (last n ∷ after))) [
      | true ↦ λ t. let none : n / 10 ≡ 0 = grind (arith, nat_tests) in one (omega arith)
      | false ↦ λ t. let some : n / 10 ≢ 0 = grind (arith, nat_tests) in more (omega arith)
    ]) refl

onto_digits : (k n : ℕ) (after : List ℕ) → list_all is_digit after ≡ true → list_all is_digit (digits_onto k 10 false n after) ≡ true
onto_digits zero n after h = h
onto_digits (suc k) n after h =
    let more : list_all is_digit (last n ∷ after) ≡ true = rw (last_digit n, h) refl in
    digits_onto_suc (λ ds. list_all is_digit ds ≡ true) k n after (λ s. more) (λ s. onto_digits k (n / 10) (last n ∷ after) more)

onto_few : (k n : ℕ) (after : List ℕ) → length (digits_onto k 10 false n after) ≤ k + length after
onto_few zero n after = omega arith
onto_few (suc k) n after =
    digits_onto_suc (λ ds. length ds ≤ suc k + length after) k n after (λ s. omega arith) (λ s. omega (arith, onto_few k (n / 10) (last n ∷ after)))

onto_more : (k n : ℕ) (after : List ℕ) → length after ≤ length (digits_onto k 10 false n after)
onto_more zero n after = omega arith
onto_more (suc k) n after =
    digits_onto_suc (λ ds. length after ≤ length ds) k n after (λ s. omega arith) (λ s. omega (arith, onto_more k (n / 10) (last n ∷ after)))

onto_value : (k n : ℕ) (after : List ℕ) → n < k
    → fold (λ n b. 10 * n + (b - 48)) 0 (digits_onto k 10 false n after) ≡ fold (λ n b. 10 * n + (b - 48)) n after
onto_value zero n after small = absurd (omega arith)
onto_value (suc k) n after small =
    let value = λ (m : ℕ). fold (λ n b. 10 * n + (b - 48)) m after in
    digits_onto_suc (λ ds. fold (λ n b. 10 * n + (b - 48)) 0 ds ≡ value n) k n after
    (λ s. ap value {x = 10 * 0 + (last n - 48)} {y = n} (omega (arith, last_is n)))
    (λ s. onto_value k (n / 10) (last n ∷ after) (omega arith) ∙ ap value {x = 10 * (n / 10) + (last n - 48)} {y = n} (omega (arith, last_is n)))

pub decimal_digits : (n : ℕ) → list_all is_digit (decimal n) ≡ true
unfolding digits
decimal_digits n = onto_digits 64 n [] refl

pub decimal_few : (n : ℕ) → length (decimal n) ≤ 64
unfolding digits
decimal_few n = onto_few 64 n []

pub decimal_some : (n : ℕ) → decimal n ≢ []
unfolding digits
decimal_some n =
    digits_onto_suc (λ ds. ds ≢ []) 63 n [] (λ s e. cc)
    (λ s e. let one = onto_more 63 (n / 10) (last n ∷ []) in let none = ap length e in omega arith)

pub decimal_value : (n : ℕ) → n < 64 → n ≡ digits_value (decimal n)
unfolding digits
decimal_value n small = sym (onto_value 64 n [] small)

-- The value of digits, known up to a number that is more than may be said.
use Rattle.std.proofs.Common.{◌≡◌, ℕ, suc, ◌+◌, ◌-◌, ◌*◌, ◌<◌, ◌||◌, ◌==◌, Bool, true, false, min, List, [], ◌∷◌, length, ap, sym, ◌∙◌, arith, add-one, drop, drop-cons, get_or}
use Rattle.std.specs.Prelude.{fold, if◌then◌else◌}
use Rattle.chess_board.specs.Characters.{char}
use Rattle.chess_board.specs.Fields.{digits_value}
use Rattle.command_words.specs.Memory.{memory_of, unit_of}

-- the value of digits behind a number
abbrev pub value_behind : ℕ → List ℕ → ℕ
value_behind n digits = fold (λ m b. 10 * m + (b - 48)) n digits

module _ (most : ℕ) where
  value_behind-capped : (m k : ℕ) (bs : List ℕ) → min m most ≡ min k most → min (value_behind m bs) most ≡ min (value_behind k bs) most
  value_behind-capped m k [] same = same
  value_behind-capped m k (b ∷ bs) same = value_behind-capped (10 * m + (b - 48)) (10 * k + (b - 48)) bs (omega arith)

  pub value_more : (digits : List ℕ) (n i b m : ℕ) → i < length digits → b ≡ get_or digits i 0 → min m most ≡ min (10 * n + (b - 48)) most
      → min (value_behind n (drop i digits)) most ≡ min (digits_value digits) most
      → min (value_behind m (drop (i + 1) digits)) most ≡ min (digits_value digits) most
  value_more digits n i b m here at next so_far =
      let split : drop i digits ≡ b ∷ drop (suc i) digits = drop-cons digits i 0 here ∙ ap (λ x. x ∷ drop (suc i) digits) (sym at) in
      rw add-one (value_behind-capped m (10 * n + (b - 48)) (drop (suc i) digits) next ∙ ap (λ t. min (value_behind n t) most) (sym split) ∙ so_far)

-- Of each unit a number that is capped says no more and no less than may be said where it does without.
of_kilobytes : (v : ℕ) → memory_of (min v 33554433 * 1024) ≡ memory_of (v * 1024)
of_kilobytes v = grind arith

of_megabytes : (v : ℕ) → memory_of (min v 33554433 * 1048576) ≡ memory_of (v * 1048576)
of_megabytes v = grind arith

of_gigabytes : (v : ℕ) → memory_of (min v 33554433 * 1073741824) ≡ memory_of (v * 1073741824)
of_gigabytes v = grind arith

of_none : (v : ℕ) → memory_of (min v 33554433 * 0) ≡ memory_of (v * 0)
of_none v = grind arith

abbrev unit_by : Bool → Bool → Bool → ℕ
unit_by kilo mega giga = if kilo then 1024 else if mega then 1048576 else if giga then 1073741824 else 0

of_unit : (v : ℕ) (kilo mega giga : Bool) → memory_of (min v 33554433 * unit_by kilo mega giga) ≡ memory_of (v * unit_by kilo mega giga)
of_unit v true mega giga = of_kilobytes v
of_unit v false true giga = of_megabytes v
of_unit v false false true = of_gigabytes v
of_unit v false false false = of_none v

pub said_capped : (v letter : ℕ) → memory_of (min v 33554433 * unit_of letter) ≡ memory_of (v * unit_of letter)
said_capped v letter = of_unit v (letter == char "K" || letter == char "k") (letter == char "M" || letter == char "m")
    (letter == char "G" || letter == char "g")

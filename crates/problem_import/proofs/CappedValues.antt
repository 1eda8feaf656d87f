-- The value of digits, known up to 16.
use Rattle.std.proofs.Common.{◌≡◌, ℕ, suc, ◌+◌, ◌-◌, ◌*◌, ◌<◌, min, List, [], ◌∷◌, length, ap, sym, ◌∙◌, arith, add-one, drop, drop-cons}
use Rattle.std.proofs.Common.{get_or}
use Rattle.std.specs.Prelude.{fold}
use Rattle.chess_board.specs.Fields.{digits_value}

-- the value of digits behind a number
abbrev pub value_behind : ℕ → List ℕ → ℕ
value_behind n digits = fold (λ m b. 10 * m + (b - 48)) n digits

value_behind-capped : (m k : ℕ) (bs : List ℕ) → min m 16 ≡ min k 16 → min (value_behind m bs) 16 ≡ min (value_behind k bs) 16
value_behind-capped m k [] same = same
value_behind-capped m k (b ∷ bs) same = value_behind-capped (10 * m + (b - 48)) (10 * k + (b - 48)) bs (omega arith)

pub value_more : (digits : List ℕ) (n i b m : ℕ) → i < length digits → b ≡ get_or digits i 0 → min m 16 ≡ min (10 * n + (b - 48)) 16
    → min (value_behind n (drop i digits)) 16 ≡ min (digits_value digits) 16
    → min (value_behind m (drop (i + 1) digits)) 16 ≡ min (digits_value digits) 16
value_more digits n i b m here at next so_far =
    let split : drop i digits ≡ b ∷ drop (suc i) digits = drop-cons digits i 0 here ∙ ap (λ x. x ∷ drop (suc i) digits) (sym at) in
    rw add-one (value_behind-capped m (10 * n + (b - 48)) (drop (suc i) digits) next ∙ ap (λ t. min (value_behind n t) 16) (sym split) ∙ so_far)

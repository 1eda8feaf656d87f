-- The highest square of a set.
use Rattle.std.proofs.Common.{◌≡◌, ℕ, suc, ◌+◌, ◌-◌, ◌*◌, ◌^◌, ◌<◌, ◌≤◌, ap, ◌∙◌, arith, w64}
use Rattle.std.specs.Int.{bit_at, leading_zeros}
use Rattle.std.proofs.lemmas.Nat.{leading_top}
use Rattle.std.proofs.lemmas.Nat.Bits.{bit_at_above, bit_at_cat_high}

top_digit : (j a : ℕ) → 2 ^ j ≤ a → a < 2 ^ suc j → bit_at a j ≡ 1
top_digit j a l h =
    let split : a ≡ 1 * 2 ^ j + (a - 2 ^ j) = omega arith in
    let small : a - 2 ^ j < 2 ^ j = omega arith in
    ap (λ (x : ℕ). bit_at x j) split ∙ bit_at_cat_high 1 j (a - 2 ^ j) j small (omega arith) ∙ (let z : j - j ≡ 0 = omega arith in rw z)

-- `63 - leading_zeros` of a number that is not 0 is the place of its highest 1
pub bit_at-leading_zeros : (n : ℕ) → 0 < n → n < 2 ^ 64
    → (63 - leading_zeros w64 n < 64) × (leading_zeros w64 n < 64) × (bit_at n (63 - leading_zeros w64 n) ≡ 1)
    × ((i : ℕ) → 63 - leading_zeros w64 n < i → bit_at n i ≡ 0)
bit_at-leading_zeros n h fits =
    let top = leading_top 64 n h fits in
    let j : ℕ = top.0 in
    let e : 63 - leading_zeros w64 n ≡ j = omega arith in
    (omega arith, omega arith, rw e (top_digit j n top.2 top.3), λ i l. bit_at_above n (suc j) i top.3 (omega arith))

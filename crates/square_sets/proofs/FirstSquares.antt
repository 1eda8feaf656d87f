-- The lowest square of a set, and the list of its squares without it.
use Rattle.std.proofs.Common.{◌≡◌, ℕ, zero, suc, ◌^◌, ◌<◌, ◌≤◌, Bool, not, ◌&&◌, true, false, eqb, [], ◌∷◌, refl, ◌∙◌, arith, w64}
use Rattle.std.specs.Int.{trailing_zeros}
use Rattle.std.proofs.lemmas.Nat.Bits.{bit_at-trailing_zeros}
use Rattle.std.proofs.lemmas.Bool.{eqb-true, eqb-false}
use Rattle.square_sets.specs.Members.{has, members_below, members}
use Rattle.square_sets.specs.BitScan.{IsLowest, IsSplit}

pub lowest_of : (set : ℕ) → 0 < set → set < 2 ^ 64 → IsLowest (trailing_zeros w64 set) set
lowest_of set some fits =
    let first = bit_at-trailing_zeros w64 set some fits in
    record {
      on_board = first.0;
      there = rw first.1 refl;
      none_below = λ s below. let none = first.2 s below in rw none refl;
    }

-- no two squares are the lowest
pub lowest_once : (set a b : ℕ) → IsLowest a set → IsLowest b set → a ≡ b
lowest_once set a b one other = omega (arith, above, below)
  where
    above : a < b → ⊥
    above l = let e = one.there in let no = other.none_below a l in cc

    below : b < a → ⊥
    below l = let e = other.there in let no = one.none_below b l in cc

none_below : (set n : ℕ) → ((s : ℕ) → s < n → has set s ≡ false) → members_below set n ≡ []
unfolding members_below
none_below set zero none = refl
none_below set (suc n) none = let here = none n (omega arith) in let rest = none_below set n (λ s l. none s (omega arith)) in rw (rest, here)

lowest_first : (set square rest n : ℕ) → square < n → n ≤ 64 → IsLowest square set
    → ((s : ℕ) → s < 64 → has rest s ≡ (not (eqb s square) && has set s))
    → members_below set n ≡ square ∷ members_below rest n
unfolding members_below
lowest_first set square rest zero below h is others = absurd (omega arith)
lowest_first set square rest (suc n) below h is others =
    (elim (eqb n square) as (λ b. eqb n square ≡ b → members_below set (suc n) ≡ square ∷ members_below rest (suc n)) [
      | true ↦ λ e.
          let same : n ≡ square = eqb-true n square e in
          let before = none_below set n (λ s l. is.none_below s (omega arith)) in
          let left = none_below rest n (λ s l. others s (omega arith)
          ∙ (let no = is.none_below s (omega arith) in rw no (and_false (not (eqb s square))))) in
          let there = is.there in
          let gone : has rest n ≡ false = others n (omega arith) ∙ (rw e refl) in
          rw (before, left, gone) (rw (same, there) refl)
      | false ↦ λ e.
          let ne = eqb-false n square e in
          let front = lowest_first set square rest n (omega arith) (omega arith) is others in
          let kept : has rest n ≡ has set n = others n (omega arith) ∙ (rw e refl) in
          rw (front, kept)
    ]) refl
  where
    and_false : (x : Bool) → (x && false) ≡ false
    and_false true = refl
    and_false false = refl

pub split_off : (set square rest : ℕ) → IsLowest square set
    → ((s : ℕ) → s < 64 → has rest s ≡ (not (eqb s square) && has set s)) → IsSplit set square rest
unfolding members
split_off set square rest is others =
    record { lowest = is; others = others; rising = lowest_first set square rest 64 is.on_board (omega arith) is others }

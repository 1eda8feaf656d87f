-- A bit set, a bit cleared, all bits moved down, and the lowest bit.
use Rattle.std.proofs.Common.{◌≡◌, ℕ, ◌+◌, ◌*◌, ◌/◌, ◌%◌, ◌^◌, ◌<◌, ◌==◌, not, ◌&&◌, ◌||◌, true, false, eqb, refl, sym, ap, w64, add-one}
use Rattle.std.specs.Int.{bit_not}
use Rattle.std.specs.Int.RustNames.{bit_and, bit_or}
use Rattle.std.proofs.lemmas.Nat.Bits.{bit_at_clear_same, bit_at_clear_other, bit_at_set_same, bit_at_set_other, bit_at-suc, bit_at-zero}
use Rattle.std.proofs.lemmas.Bool.{eqb-true, eqb-false}
use Rattle.mate_desk.specs.inside.PlaceBits.{has_place}

pub has_set : (word k p : ℕ) → k < 64 → p < 64 → has_place (bit_or word (1 * 2 ^ k % 2 ^ 64)) p ≡ (eqb p k || has_place word p)
has_set word k p l h = (elim (eqb p k) as (λ b. eqb p k ≡ b → has_place (bit_or word (1 * 2 ^ k % 2 ^ 64)) p ≡ (b || has_place word p)) [
  | true ↦ λ e. let same = eqb-true p k e in rw same (rw (bit_at_set_same w64 word k l))
  | false ↦ λ e. rw (bit_at_set_other w64 word k l p (eqb-false p k e))
]) refl

pub has_clear : (word k p : ℕ) → k < 64 → p < 64 → has_place (bit_and word (bit_not w64 (1 * 2 ^ k % 2 ^ 64))) p ≡ (not (eqb p k) && has_place word p)
has_clear word k p l h = (elim (eqb p k) as (λ b. eqb p k ≡ b
    → has_place (bit_and word (bit_not w64 (1 * 2 ^ k % 2 ^ 64))) p ≡ (not b && has_place word p)) [
      | true ↦ λ e. let same = eqb-true p k e in rw same (rw (bit_at_clear_same w64 word k l))
      | false ↦ λ e. rw (bit_at_clear_other w64 word k l p h (eqb-false p k e))
    ]) refl

-- No place is in the word 0.
pub none_has : (p : ℕ) → has_place 0 p ≡ false
none_has p = rw (bit_at-zero p) refl

-- A bit that is not 1 is not there.
pub is_absent : (b : ℕ) → b ≡ 0 → (b == 1) ≡ false
is_absent b e = rw e refl

pub is_there : (b : ℕ) → b ≡ 1 → (b == 1) ≡ true
is_there b e = rw e refl

pub has_lower : (word p : ℕ) → has_place (word / 2) p ≡ has_place word (p + 1)
has_lower word p = rw add-one (ap (λ b. b == 1) (sym (bit_at-suc word p)))

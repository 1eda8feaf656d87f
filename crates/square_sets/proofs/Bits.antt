-- A bit set, and a bit cleared.
use Rattle.std.proofs.Common.{◌≡◌, ℕ, ◌*◌, ◌%◌, ◌^◌, ◌<◌, not, ◌&&◌, ◌||◌, true, false, eqb, refl, w64}
use Rattle.std.specs.Int.{bit_not}
use Rattle.std.specs.Int.RustNames.{bit_and, bit_or}
use Rattle.std.proofs.lemmas.Nat.Bits.{bit_at_clear_same, bit_at_clear_other, bit_at_set_same, bit_at_set_other}
use Rattle.std.proofs.lemmas.Bool.{eqb-true, eqb-false}
use Rattle.square_sets.specs.Members.{has}

pub has_set : (set s t : ℕ) → s < 64 → t < 64 → has (bit_or set (1 * 2 ^ s % 2 ^ 64)) t ≡ (eqb t s || has set t)
has_set set s t l k = (elim (eqb t s) as (λ b. eqb t s ≡ b → has (bit_or set (1 * 2 ^ s % 2 ^ 64)) t ≡ (b || has set t)) [
  | true ↦ λ e. let same = eqb-true t s e in rw same (rw (bit_at_set_same w64 set s l))
  | false ↦ λ e. rw (bit_at_set_other w64 set s l t (eqb-false t s e))
]) refl

pub has_clear : (set s t : ℕ) → s < 64 → t < 64 → has (bit_and set (bit_not w64 (1 * 2 ^ s % 2 ^ 64))) t ≡ (not (eqb t s) && has set t)
has_clear set s t l k = (elim (eqb t s) as (λ b. eqb t s ≡ b → has (bit_and set (bit_not w64 (1 * 2 ^ s % 2 ^ 64))) t ≡ (not b && has set t)) [
  | true ↦ λ e. let same = eqb-true t s e in rw same (rw (bit_at_clear_same w64 set s l))
  | false ↦ λ e. rw (bit_at_clear_other w64 set s l t k (eqb-false t s e))
]) refl

-- Sets that share a square.
use Rattle.std.proofs.Common.{◌≡◌, ℕ, ◌^◌, ◌<◌, true, false, not, ◌&&◌, eqb, refl, sym, ◌∙◌, arith, w64}
use Rattle.std.specs.Int.{bit_at, trailing_zeros}
use Rattle.std.specs.Int.RustNames.{bit_and}
use Rattle.std.proofs.lemmas.Nat.Bits.{bit_at-trailing_zeros, bit_at-zero}
use Rattle.std.proofs.lemmas.Bool.{eqb-true, eqb-false, eq-eqb}
use Rattle.square_sets.specs.Members.{has}
use Rattle.chess_moves.proofs.SetBits.{has_and}
use Rattle.chess_board.specs.Squares.{any_below}
use Rattle.chess_moves.proofs.AnyLemmas.{any_same, any_none, any_at}

pub nonzero : (x : ℕ) → x < 2 ^ 64 → not (eqb x 0) ≡ any_below 64 (has x)
nonzero x fits = (elim (eqb x 0) as (λ b. eqb x 0 ≡ b → not b ≡ any_below 64 (has x)) [
  | true ↦ λ t. let z = eqb-true x 0 t in sym (any_none (has x) 64 (λ s l. rw z (rw (bit_at-zero s))))
  | false ↦ λ t. let ne = eqb-false x 0 t in let z = bit_at-trailing_zeros w64 x (omega arith) fits in
      sym (any_at (has x) 64 (trailing_zeros w64 x) z.0 (eq-eqb (bit_at x (trailing_zeros w64 x)) 1 z.1))
]) refl

pub meets_is : (a b : ℕ) → bit_and a b < 2 ^ 64 → not (eqb (bit_and a b) 0) ≡ any_below 64 (λ s. has a s && has b s)
meets_is a b fits = nonzero (bit_and a b) fits ∙ any_same (has (bit_and a b)) (λ s. has a s && has b s) 64 (λ s l. has_and a b s)

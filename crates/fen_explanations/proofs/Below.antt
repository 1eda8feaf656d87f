-- A test of all numbers below a number, and one number more.
use Rattle.std.proofs.Common.{◌≡◌, ◌+◌, ℕ, suc, Bool, ◌&&◌, refl, arith}
use Rattle.chess_board.specs.Squares.{all_below}

pub more_all : (P : ℕ → Bool) (n : ℕ) (before here : Bool) → before ≡ all_below n P → here ≡ P n → (before && here) ≡ all_below (n + 1) P
unfolding all_below
more_all P n before here so_far is = let next : n + 1 ≡ suc n = omega (arith) in rw (next, so_far, is) refl

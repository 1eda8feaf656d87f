-- How many lines of play there are, and that the count fits.
use Rattle.std.proofs.Common.{◌≡◌, ℕ, zero, suc, ◌+◌, ◌-◌, ◌*◌, ◌^◌, ◌<◌, ◌≤◌, List, [], ◌∷◌}
use Rattle.std.proofs.Common.{length, map, refl, ap, ◌∙◌, arith, sub-one, length-append}
use Rattle.std.specs.List.{sum_by, flat_map}
use Rattle.std.proofs.Math.Nat.{pow-suc, mul-le-mul_left}
use Rattle.std.proofs.lemmas.List.Sums.{sum_by-cons}
use Rattle.chess_board.specs.Positions.{Setup}
use Rattle.chess_board.specs.Moves.{Move}
use Rattle.chess_board.specs.MakeMove.{after_setup}
use Rattle.chess_moves.specs.inside.Listing.{legal_moves}
use Rattle.chess_moves.specs.Plays.{plays}

map_length : {A B : Type 0} (f : A → B) (xs : List A) → length (map f xs) ≡ length xs
map_length f [] = refl
map_length f (x ∷ xs) = ap suc (map_length f xs)

-- the lines that begin with one of these moves
lines_length : (f : Move → List (List Move)) (xs : List Move)
    → length (flat_map (λ m. map (λ line. m ∷ line) (f m)) xs) ≡ sum_by (λ m. length (f m)) xs
lines_length f [] = refl
lines_length f (x ∷ xs) =
    omega (
      arith,
      length-append (map (λ line. x ∷ line) (f x)) (flat_map (λ m. map (λ line. m ∷ line) (f m)) xs),
      map_length (λ (line : List Move). x ∷ line) (f x),
      lines_length f xs,
      sum_by-cons (λ m. length (f m)) x xs,
    )

pub plays_none : (p : Setup) (d : ℕ) → d ≡ 0 → length (plays p d) ≡ 1
unfolding plays
plays_none p d h = rw h

pub plays_step : (p : Setup) (d : ℕ) → 0 < d → length (plays p d) ≡ sum_by (λ m. length (plays (after_setup p m) (d - 1))) (legal_moves p)
unfolding plays
plays_step p zero h = absurd (omega arith)
plays_step p (suc d) h = simp sub-one (lines_length (λ m. plays (after_setup p m) d) (legal_moves p))

-- The lines of one move are as many as the legal moves.
pub plays_of_one : (p : Setup) (d : ℕ) → d ≡ 1 → length (plays p d) ≡ length (legal_moves p)
unfolding plays
plays_of_one p d h = rw h (lines_length (λ m. [] ∷ []) (legal_moves p) ∙ ones (legal_moves p))
  where
    ones : (xs : List Move) → sum_by (λ m. 1) xs ≡ length xs
    ones [] = refl
    ones (x ∷ xs) = omega (arith, ones xs, sum_by-cons (λ m. 1) x xs)

pub pow_step : (d : ℕ) → 0 < d → 1024 ^ d ≡ 1024 * 1024 ^ (d - 1)
pow_step zero h = absurd (omega arith)
pow_step (suc d) h = simp (sub-one, pow-suc) (omega arith)

pub pow_fits : (d : ℕ) → d ≤ 6 → 1024 ^ d ≤ 2 ^ 60
pow_fits zero h = omega arith
pow_fits (suc zero) h = omega arith
pow_fits (suc (suc zero)) h = omega arith
pow_fits (suc (suc (suc zero))) h = omega arith
pow_fits (suc (suc (suc (suc zero)))) h = omega arith
pow_fits (suc (suc (suc (suc (suc zero))))) h = omega arith
pow_fits (suc (suc (suc (suc (suc (suc zero)))))) h = omega arith
pow_fits (suc (suc (suc (suc (suc (suc (suc d))))))) h = absurd (omega arith)

-- room for one of n more
pub one_of : (n rest k : ℕ) → n ≡ suc rest → n * k ≡ k + rest * k
one_of n rest k h = rw h (omega arith)

pub times_grow : (i n k : ℕ) → i ≤ n → i * k ≤ n * k
times_grow i n k h = omega (arith, mul-le-mul_left k h)

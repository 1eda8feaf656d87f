-- Not for believing: what stands between a slider and a square.
use Rattle.std.specs.Prelude.{◌≡◌, ◌≢◌, ℕ, ◌<◌, Bool, true, false, not, ◌&&◌}
use Rattle.square_sets.specs.Members.{has}
use Rattle.chess_board.specs.Squares.{some_square}
use Rattle.chess_moves.specs.inside.Directions.{stands_between}

-- No square strictly between a and b is taken.
abbrev pub is_open : (ℕ → Bool) → ℕ → ℕ → Bool
is_open taken a b = not (some_square (λ s. stands_between a b s && taken s))

-- Of the squares strictly between a and b, o is taken, and no other.
pub record IsAlone (taken : ℕ → Bool) (a b o : ℕ) : Type 0 where
  pub between : stands_between a b o ≡ true
  pub there : taken o ≡ true
  pub others : (s : ℕ) → s < 64 → s ≢ o → (stands_between a b s && taken s) ≡ false

-- The set has this square, and no other.
pub record IsAloneIn (set o : ℕ) : Type 0 where
  pub there : has set o ≡ true
  pub others : (s : ℕ) → s < 64 → s ≢ o → has set s ≡ false

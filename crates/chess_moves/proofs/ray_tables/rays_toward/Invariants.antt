use Rattle.std.proofs.Common.{◌≡◌, ℕ, ◌<◌, length, slice_index}
use Rattle.square_sets.specs.Members.{has}
use Rattle.chess_moves.specs.inside.Directions.{toward}
use Rattle.chess_moves.proofs.ray_tables.rays_toward.Given as goal

-- the sets of the squares below this one are done
abbrev pub invariant-loop-square : goal.invariant-loop-square
invariant-loop-square l = record {
  len : length l.rays ≡ 64;
  done : (k : ℕ) → k < l.square → (t : ℕ) → t < 64 → has (slice_index l.rays k) t ≡ toward l.direction k t;
}

use Rattle.std.proofs.Common.{◌≡◌, ℕ, ◌<◌, ◌||◌, length, slice_index}
use Rattle.square_sets.specs.Members.{has}
use Rattle.chess_moves.proofs.ray_tables.one_set.Given as goal

-- the sets of the squares below this one are done
abbrev pub invariant-loop-square : goal.invariant-loop-square
invariant-loop-square l = record {
  len : length l.sets ≡ 64;
  done : (k : ℕ) → k < l.square → (t : ℕ) → t < 64
      → has (slice_index l.sets k) t
      ≡ (has (slice_index l.a k) t || has (slice_index l.b k) t || has (slice_index l.c k) t || has (slice_index l.d k) t);
}

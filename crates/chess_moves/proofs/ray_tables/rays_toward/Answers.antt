use Rattle.std.proofs.Common.{◌≡◌, ◌≢◌, ℕ, ◌<◌, length, get_or, set, arith, below_more, get_or-set_same, get_or-set_other, length-set}
use Rattle.square_sets.specs.Members.{has}
use Rattle.chess_moves.specs.inside.Directions.{toward}
use Rattle.chess_moves.proofs.ray_tables.rays_toward.Goals as goal

pub loop-square-preserved : goal.loop-square-preserved
loop-square-preserved c = record {
  len = simp length-set c.loop-square.invariant.len;
  done = below_more (λ (k : ℕ). (t : ℕ) → t < 64 → has (get_or
      (set c.loop-square.rays c.loop-square.square c.ray_from.result) k 0) t ≡ toward c.args.direction k t) c.loop-square.square
      (λ k h. let ne : k ≢ c.loop-square.square = omega arith in rw get_or-set_other (c.loop-square.invariant.done k h))
      (let lt : c.loop-square.square < length c.loop-square.rays = omega arith in rw get_or-set_same c.ray_from.ensures);
}

use Rattle.std.proofs.Common.{◌≡◌, ◌≢◌, ℕ, ◌<◌, length, get_or, set, arith, below_more, get_or-set_same, get_or-set_other, length-set}
use Rattle.square_sets.specs.Members.{has}
use Rattle.chess_moves.specs.inside.Leaps.{leaps}
use Rattle.chess_moves.proofs.ray_tables.targets_of.Goals as goal

pub loop-square-preserved : goal.loop-square-preserved
loop-square-preserved c = record {
  len = simp length-set c.loop-square.invariant.len;
  done = below_more (λ (k : ℕ). (t : ℕ) → t < 64 → has (get_or
      (set c.loop-square.targets c.loop-square.square c.leap_from.result) k 0) t ≡ leaps c.args.leap k t) c.loop-square.square
      (λ k h. let ne : k ≢ c.loop-square.square = omega arith in rw get_or-set_other (c.loop-square.invariant.done k h))
      (let lt : c.loop-square.square < length c.loop-square.targets = omega arith in rw get_or-set_same c.leap_from.ensures);
}

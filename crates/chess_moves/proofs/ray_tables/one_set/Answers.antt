use Rattle.std.proofs.Common.{◌≡◌, ◌≢◌, ℕ, ◌<◌, ◌||◌, length, slice_index, get_or, set, bit_or, refl}
use Rattle.std.proofs.Common.{arith, below_more, get_or-set_same, get_or-set_other, length-set}
use Rattle.square_sets.specs.Members.{has}
use Rattle.chess_moves.proofs.AttackSets.{four}
use Rattle.chess_moves.proofs.ray_tables.one_set.Goals as goal

pub loop-square-preserved : goal.loop-square-preserved
loop-square-preserved c =
    let i : ℕ = c.loop-square.square in
    let a = slice_index c.args.a.now in
    let b = slice_index c.args.b.now in
    let d = slice_index c.args.c.now in
    let e = slice_index c.args.d.now in
    let sum : ℕ = bit_or (bit_or (bit_or (a i) (b i)) (d i)) (e i) in
    record {
      len = simp length-set c.loop-square.invariant.len;
      done = below_more (λ (k : ℕ). (t : ℕ) → t < 64
          → has (get_or (set c.loop-square.sets i sum) k 0) t ≡ (has (a k) t || has (b k) t || has (d k) t || has (e k) t)) i
          (λ k h. let ne : k ≢ i = omega arith in rw get_or-set_other (c.loop-square.invariant.done k h))
          (let lt : i < length c.loop-square.sets = omega arith in
          rw get_or-set_same (λ t l. four (a i) (b i) (d i) (e i) t _ _ _ _ refl refl refl refl));
    }

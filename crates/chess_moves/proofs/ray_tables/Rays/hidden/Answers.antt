use Rattle.std.proofs.Common.{ℕ, ◌<◌, ◌^◌, ◌∙◌, ap, sym, arith, bit_and}
use Rattle.std.proofs.lemmas.Nat.{and_le_l}
use Rattle.chess_moves.specs.inside.Directions.{toward}
use Rattle.chess_moves.proofs.Reaching.{hidden_rising, hidden_falling, with_h8, with_a1, small_h8, small_a1, first_rising, first_falling}
use Rattle.chess_moves.proofs.ray_tables.Rays.hidden.Goals.{then-rises, else-rises}
use Rattle.chess_moves.proofs.ray_tables.Rays.hidden.Goals as goal

pub overflow_sub-first : goal.overflow_sub-first
overflow_sub-first c = omega (
  arith,
  first_falling (bit_and c.ray-ray.result c.args.occupied) (omega (arith, and_le_l c.ray-ray.result c.args.occupied)),
)

pub ray-requires : goal.ray-requires
ray-requires c = elim c.if-rises.branch [
  | then-rises w ↦ omega (
    arith,
    w.first-is,
    first_rising (bit_and c.ray-ray.result c.args.occupied) (omega (arith, and_le_l c.ray-ray.result c.args.occupied)),
  )
  | else-rises w ↦ omega (arith, w.first-is)
]

pub returns : goal.returns
returns c =
    let set : ℕ = bit_and c.ray-ray.result c.args.occupied in
    let small : set < 2 ^ 64 = omega (arith, and_le_l c.ray-ray.result c.args.occupied) in
    elim c.if-rises.branch [
      | then-rises w ↦ hidden_rising c.ray-ray.result c.args.occupied _ c.ray.result c.args.square c.args.direction
          (sym w.if-rises.ensures) c.ray-ray.ensures (with_h8 set) (small_h8 set small)
          (λ t l. c.ray.ensures t l ∙ ap (λ b. toward c.args.direction b t) w.first-is)
      | else-rises w ↦ hidden_falling c.ray-ray.result c.args.occupied _ c.ray.result c.args.square c.args.direction
          (sym w.if-rises.ensures) c.ray-ray.ensures (with_a1 set) (small_a1 set small)
          (λ t l. c.ray.ensures t l ∙ ap (λ b. toward c.args.direction b t) w.first-is)
    ]

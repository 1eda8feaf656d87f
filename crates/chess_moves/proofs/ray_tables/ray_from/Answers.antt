use Rattle.std.proofs.Common.{◌∙◌, sym, ap, ◌||◌, eqb}
use Rattle.chess_moves.specs.inside.Directions.{toward}
use Rattle.chess_moves.proofs.SetSteps.{step_in, step_out}
use Rattle.chess_moves.proofs.ray_tables.ray_from.Goals.{then-is_toward, else-is_toward}
use Rattle.chess_moves.proofs.ray_tables.ray_from.Goals as goal

pub loop-t-preserved : goal.loop-t-preserved
loop-t-preserved c = λ k h. elim c.if-is_toward.branch [
  | then-is_toward w ↦ rw w.set-is (w.with-set.ensures k h ∙ ap (λ b. eqb k c.loop-t.t || b) (c.loop-t.invariant k h)
      ∙ step_in k c.loop-t.t (toward c.args.direction c.args.square) (sym w.if-is_toward.ensures))
  | else-is_toward w ↦ rw w.set-is
      (c.loop-t.invariant k h ∙ step_out k c.loop-t.t (toward c.args.direction c.args.square) (sym w.if-is_toward.ensures))
]

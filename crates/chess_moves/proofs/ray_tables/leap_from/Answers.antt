use Rattle.std.proofs.Common.{◌∙◌, sym, ap, ◌||◌, eqb}
use Rattle.chess_moves.specs.inside.Leaps.{leaps}
use Rattle.chess_moves.proofs.SetSteps.{step_in, step_out}
use Rattle.chess_moves.proofs.ray_tables.leap_from.Goals.{then-is_leap, else-is_leap}
use Rattle.chess_moves.proofs.ray_tables.leap_from.Goals as goal

pub loop-t-preserved : goal.loop-t-preserved
loop-t-preserved c = λ k h. elim c.if-is_leap.branch [
  | then-is_leap w ↦ rw w.set-is (w.with-set.ensures k h ∙ ap (λ b. eqb k c.loop-t.t || b) (c.loop-t.invariant k h)
      ∙ step_in k c.loop-t.t (leaps c.args.leap c.args.square) (sym w.if-is_leap.ensures))
  | else-is_leap w ↦ rw w.set-is (c.loop-t.invariant k h ∙ step_out k c.loop-t.t (leaps c.args.leap c.args.square) (sym w.if-is_leap.ensures))
]

use Rattle.std.proofs.Common.{◌∙◌}
use Rattle.chess_moves.proofs.GuardedRefuges.{unguarded}
use Rattle.chess_moves.proofs.escape_guards.guards_of_escapes.Goals as goal

pub returns-in_default : goal.returns-in_default
returns-in_default c = unguarded c.args.position.now

pub loop-square-init : goal.loop-square-init
loop-square-init c = record {
  guards = unguarded c.args.position.now;
  left = λ s l on. rw (← c.into_iter-square-iterator.ensures.into_iter_gives ∙ c.squares-square-items.ensures) on;
}

use Rattle.std.proofs.Common.{◌≡◌, ℕ, ◌<◌, true}
use Rattle.square_sets.specs.Members.{has}
use Rattle.chess_moves.specs.Escapes.{AreGuardsOf}
use Rattle.chess_moves.proofs.escape_guards.guards_of_escapes.Given as goal

-- these guard, and what is left are some of the steps
abbrev pub invariant-loop-square : goal.invariant-loop-square
invariant-loop-square l = record {
  guards : AreGuardsOf l.guards l.position;
  left : (s : ℕ) → s < 64 → has l.square-iterator s ≡ true → has l.steps.squares s ≡ true;
}

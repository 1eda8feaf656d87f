use Rattle.std.proofs.Common.{◌≡◌, ℕ, ◌<◌, true}
use Rattle.square_sets.specs.Members.{has}
use Rattle.chess_moves.proofs.escapes.king_escapes.Given as goal

-- what is left are some of the steps
abbrev pub invariant-loop-square : goal.invariant-loop-square
invariant-loop-square l = (s : ℕ) → s < 64 → has l.square-iterator s ≡ true → has l.steps.squares s ≡ true

use Rattle.std.proofs.Common.{◌≡◌, ℕ, ◌<◌, None}
use Rattle.chess_board.specs.Positions.{man_at}
use Rattle.chess_board.specs.inside.Walks.{walked}
use Rattle.chess_board.proofs.attacks.is_clear.Given as goal

abbrev pub invariant-loop-steps : goal.invariant-loop-steps
invariant-loop-steps l = (k : ℕ) → 0 < k → k < l.steps → man_at l.men (walked l.a l.b k) ≡ None

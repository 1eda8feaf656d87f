use Rattle.std.proofs.Common.{◌≡◌, ◌<◌, ℕ}
use Rattle.chess_board.specs.Positions.{man_at}
use Rattle.problem_import.proofs.diagrams.Diagram.has_men.Given as goal

abbrev pub invariant-loop-number : goal.invariant-loop-number
invariant-loop-number l = (s : ℕ) → s < l.number → man_at l.position.men s ≡ man_at l.self.men s

use Rattle.std.proofs.Common.{◌≡◌, ◌<◌, ℕ, Some, length}
use Rattle.chess_board.specs.Positions.{man_at}
use Rattle.problem_import.specs.PopeyeProblems.{man_among, or_man}
use Rattle.problem_import.proofs.diagrams.Diagram.put_each.Given as goal

abbrev pub invariant-loop-file : goal.invariant-loop-file
invariant-loop-file l = (s : ℕ) → s < 64 → or_man (man_at l.self.men s) (man_among l.rest (Some l.man) s)
    ≡ or_man (man_at l.initial.self.men s) (man_among l.squares (Some l.man) s)

abbrev pub decreases-loop-file : goal.decreases-loop-file
decreases-loop-file l = length l.rest

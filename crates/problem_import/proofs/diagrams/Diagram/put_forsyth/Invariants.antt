use Rattle.std.proofs.Common.{◌≡◌, ◌<◌, ◌≤◌, ℕ, length}
use Rattle.chess_board.specs.Positions.{man_at}
use Rattle.problem_import.specs.PopeyeProblems.{man_placed, or_man}
use Rattle.problem_import.proofs.diagrams.Diagram.put_forsyth.Given as goal

abbrev pub invariant-loop-rest : goal.invariant-loop-rest
invariant-loop-rest l = (l.place ≤ 64) × ((s : ℕ) → s < 64 → or_man (man_at l.self.men s) (man_placed l.place l.rest s)
    ≡ or_man (man_at l.initial.self.men s) (man_placed 0 l.word s))

abbrev pub decreases-loop-rest : goal.decreases-loop-rest
decreases-loop-rest l = length l.rest

use Rattle.std.proofs.Common.{◌≡◌}
use Rattle.chess_board.specs.Positions.{man_at}
use Rattle.problem_import.proofs.ReadProblems.{next_below}
use Rattle.problem_import.proofs.diagrams.Diagram.has_men.Goals as goal

pub loop-number-preserved : goal.loop-number-preserved
loop-number-preserved c = next_below (λ s. man_at c.args.position.now.men s ≡ man_at c.args.self.now.men s) c.loop-number.number
    c.loop-number.invariant (c.is_alike_on.ensures c.if-not-is_alike_on.false)

use Rattle.std.proofs.Common.{◌≡◌}
use Rattle.chess_board.specs.Squares.{all_below}
use Rattle.fen_explanations.specs.Checks.{is_open}
use Rattle.fen_explanations.proofs.checks.is_clear.Given as goal

abbrev pub invariant-loop-number : goal.invariant-loop-number
invariant-loop-number l = l.clear ≡ all_below l.number (λ s. is_open l.men l.a l.b s)

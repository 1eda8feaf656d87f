use Rattle.std.proofs.Common.{arith}
use Rattle.chess_board.proofs.MoveOrder.{before_is_placed_before}
use Rattle.chess_board.proofs.moves.comes_before.Goals as goal

pub returns : goal.returns
returns c = rw c.lt.ensures (before_is_placed_before c.args.a c.args.b (omega arith) (omega arith))

use Rattle.std.proofs.Common.{arith}
use Rattle.chess_moves.proofs.PawnShifts.{raised_for, lowered_for}
use Rattle.chess_moves.proofs.perft_count.shifted.Goals as goal

pub returns-in-White : goal.returns-in-White
returns-in-White c = λ t l. raised_for c.args.colour c.args.set c.args.gap t c.in-White.is l

pub returns-in-Black : goal.returns-in-Black
returns-in-Black c = λ t l. lowered_for c.args.colour c.args.set c.args.gap t c.in-Black.is (omega arith)

use Rattle.std.proofs.Common.{arith}
use Rattle.chess_moves.proofs.LastRanks.{many_ways}
use Rattle.chess_moves.proofs.promotions.count_ways.Goals as goal

pub returns-clause-count : goal.returns-clause-count
returns-clause-count c = λ origin. omega (
  arith,
  many_ways c.args.man origin c.args.targets c.promotion_squares.result c.promotion_squares.ensures (omega arith),
)

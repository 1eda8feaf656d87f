use Rattle.std.proofs.Common.{◌≡◌, true, rules}
use Rattle.chess_board.specs.inside.KindTests.{is_pawn_kind}
use Rattle.chess_moves.proofs.LastRanks.{has-eighth, has-first}
use Rattle.chess_moves.proofs.promotions.promotion_squares.Goals as goal

pub returns-in-White : goal.returns-in-White
returns-in-White c = λ s l. let pawn : is_pawn_kind c.args.man.kind ≡ true = search rules in rw (pawn, c.in-White.is) (has-eighth s l)

pub returns-in-Black : goal.returns-in-Black
returns-in-Black c = λ s l. let pawn : is_pawn_kind c.args.man.kind ≡ true = search rules in rw (pawn, c.in-Black.is) (has-first s l)

use Rattle.chess_moves.proofs.CastlingWays.{has-way_set}
use Rattle.chess_board.specs.declared.men.Colour.TheVariants.{White, Black}
use Rattle.chess_board.specs.declared.men.Wing.TheVariants.{KingSide, QueenSide}
use Rattle.chess_moves.proofs.castling_targets.castling_way.Goals as goal

pub returns-in-White-KingSide : goal.returns-in-White-KingSide
returns-in-White-KingSide c = λ t l. rw (c.in-White-KingSide.is-0, c.in-White-KingSide.is-1) (has-way_set White KingSide t l)

pub returns-in-White-QueenSide : goal.returns-in-White-QueenSide
returns-in-White-QueenSide c = λ t l. rw (c.in-White-QueenSide.is-0, c.in-White-QueenSide.is-1) (has-way_set White QueenSide t l)

pub returns-in-Black-KingSide : goal.returns-in-Black-KingSide
returns-in-Black-KingSide c = λ t l. rw (c.in-Black-KingSide.is-0, c.in-Black-KingSide.is-1) (has-way_set Black KingSide t l)

pub returns-in-Black-QueenSide : goal.returns-in-Black-QueenSide
returns-in-Black-QueenSide c = λ t l. rw (c.in-Black-QueenSide.is-0, c.in-Black-QueenSide.is-1) (has-way_set Black QueenSide t l)

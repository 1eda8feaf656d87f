use Rattle.chess_notation.proofs.ToldMoves.{texts_read}
use Rattle.chess_notation.proofs.san_laws.texts_read.Goals as goal

pub returns : goal.returns
returns c = texts_read c.tells_one.ensures

use Rattle.chess_notation.proofs.ToldMoves.{tells_one}
use Rattle.chess_notation.proofs.san_laws.tells_one.Goals as goal

pub returns : goal.returns
returns c = tells_one c.legal_listed.ensures c.names_one.ensures

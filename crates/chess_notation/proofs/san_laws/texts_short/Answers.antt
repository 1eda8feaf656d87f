use Rattle.chess_notation.proofs.FullTexts.{texts_short}
use Rattle.chess_notation.proofs.san_laws.texts_short.Goals as goal

pub returns : goal.returns
returns c = texts_short

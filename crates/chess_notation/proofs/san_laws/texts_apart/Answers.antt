use Rattle.chess_notation.proofs.FullTexts.{texts_apart}
use Rattle.chess_notation.proofs.san_laws.texts_apart.Goals as goal

pub returns : goal.returns
returns c = texts_apart c.legal_listed.ensures

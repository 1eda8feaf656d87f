use Rattle.chess_notation.proofs.BareTexts.{bare_texts_apart}
use Rattle.chess_notation.proofs.san_laws.bare_texts_apart.Goals as goal

pub returns : goal.returns
returns c = bare_texts_apart c.legal_listed.ensures

use Rattle.chess_notation.proofs.NamedOnce.{names_one}
use Rattle.chess_notation.proofs.san_laws.names_one.Goals as goal

pub returns : goal.returns
returns c = names_one c.bare_texts_apart.ensures

use Rattle.chess_notation.proofs.NamedOnce.{named_read}
use Rattle.chess_notation.proofs.san_laws.named_read.Goals as goal

pub returns : goal.returns
returns c = named_read c.legal_rise.ensures

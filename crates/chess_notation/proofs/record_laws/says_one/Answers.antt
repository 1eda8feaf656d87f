use Rattle.chess_notation.proofs.LineReads.{says_one}
use Rattle.chess_notation.proofs.record_laws.says_one.Goals as goal

pub returns : goal.returns
returns c = says_one c.spells_one.ensures

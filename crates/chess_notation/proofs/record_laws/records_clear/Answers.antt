use Rattle.chess_notation.proofs.LineReads.{records_clear}
use Rattle.chess_notation.proofs.record_laws.records_clear.Goals as goal

pub returns : goal.returns
returns c = records_clear c.spells_one.ensures

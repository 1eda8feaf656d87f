use Rattle.chess_notation.proofs.AnswerReading.{answer_reads}
use Rattle.chess_notation.proofs.record_laws.answer_reads.Goals as goal

pub returns : goal.returns
returns c = answer_reads c.printed_spells.ensures c.legal_listed.ensures

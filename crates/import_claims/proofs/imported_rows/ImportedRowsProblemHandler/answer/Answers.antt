use Rattle.import_claims.proofs.ReadRecords.{record_filled}
use Rattle.import_claims.proofs.imported_rows.ImportedRowsProblemHandler.answer.Goals as goal

pub answer-requires-clause-filled : goal.answer-requires-clause-filled
answer-requires-clause-filled c = record_filled c.args.line.now c.requires

pub answer-requires-clause-short : goal.answer-requires-clause-short
answer-requires-clause-short c = c.requires.1.short

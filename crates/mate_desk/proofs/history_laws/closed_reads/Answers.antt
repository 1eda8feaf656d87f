use Rattle.mate_desk.proofs.EventReadings.{closed_reads}
use Rattle.mate_desk.proofs.history_laws.closed_reads.Goals as goal

pub returns : goal.returns
returns c = closed_reads

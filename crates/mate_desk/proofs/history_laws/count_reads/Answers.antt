use Rattle.mate_desk.proofs.EventReadings.{count_reads}
use Rattle.mate_desk.proofs.history_laws.count_reads.Goals as goal

pub returns : goal.returns
returns c = count_reads

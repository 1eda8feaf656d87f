use Rattle.mate_desk.proofs.EventReadings.{withdrawn_reads}
use Rattle.mate_desk.proofs.history_laws.withdrawn_reads.Goals as goal

pub returns : goal.returns
returns c = withdrawn_reads

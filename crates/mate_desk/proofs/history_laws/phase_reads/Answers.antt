use Rattle.mate_desk.proofs.EventReadings.{phase_reads}
use Rattle.mate_desk.proofs.history_laws.phase_reads.Goals as goal

pub returns : goal.returns
returns c = phase_reads

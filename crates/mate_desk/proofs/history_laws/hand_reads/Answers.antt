use Rattle.mate_desk.proofs.HandReadings.{hand_reads}
use Rattle.mate_desk.proofs.history_laws.hand_reads.Goals as goal

pub returns : goal.returns
returns c = hand_reads

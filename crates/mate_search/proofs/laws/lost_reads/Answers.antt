use Rattle.mate_search.proofs.Readings.{lost_reads}
use Rattle.mate_search.proofs.laws.lost_reads.Goals as goal

pub returns : goal.returns
returns c = lost_reads

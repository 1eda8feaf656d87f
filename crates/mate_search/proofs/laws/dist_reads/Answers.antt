use Rattle.mate_search.proofs.Readings.{dist_reads}
use Rattle.mate_search.proofs.laws.dist_reads.Goals as goal

pub returns : goal.returns
returns c = dist_reads

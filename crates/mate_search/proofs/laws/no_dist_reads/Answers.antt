use Rattle.mate_search.proofs.Readings.{no_dist_reads}
use Rattle.mate_search.proofs.laws.no_dist_reads.Goals as goal

pub returns : goal.returns
returns c = no_dist_reads

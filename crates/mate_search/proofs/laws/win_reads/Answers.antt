use Rattle.mate_search.proofs.Readings.{win_reads}
use Rattle.mate_search.proofs.laws.win_reads.Goals as goal

pub returns : goal.returns
returns c = win_reads

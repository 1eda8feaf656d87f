use Rattle.mate_search.proofs.Readings.{keys_read}
use Rattle.mate_search.proofs.laws.keys_read.Goals as goal

pub returns : goal.returns
returns c = keys_read

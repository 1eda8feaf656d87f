use Rattle.mate_tree.proofs.TreeLaws.{soonest_reads}
use Rattle.mate_tree.proofs.laws.soonest_reads.Goals as goal

pub returns : goal.returns
returns c = soonest_reads c.truth_reads.ensures c.win_reads.ensures c.win_grows.ensures

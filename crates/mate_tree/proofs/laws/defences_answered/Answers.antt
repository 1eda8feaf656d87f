use Rattle.mate_tree.proofs.TreeLaws.{defences_answered}
use Rattle.mate_tree.proofs.laws.defences_answered.Goals as goal

pub returns : goal.returns
returns c = defences_answered c.truth_reads.ensures c.lost_reads.ensures c.soonest_reads.ensures

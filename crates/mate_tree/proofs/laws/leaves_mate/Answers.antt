use Rattle.mate_tree.proofs.TreeLaws.{leaves_mate}
use Rattle.mate_tree.proofs.laws.leaves_mate.Goals as goal

pub returns : goal.returns
returns c = leaves_mate c.truth_reads.ensures c.lost_reads.ensures

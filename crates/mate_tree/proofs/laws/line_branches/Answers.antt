use Rattle.mate_tree.proofs.TreeLaws.{line_branches}
use Rattle.mate_tree.proofs.laws.line_branches.Goals as goal

pub returns : goal.returns
returns c = line_branches c.truth_reads.ensures c.win_reads.ensures c.lost_reads.ensures

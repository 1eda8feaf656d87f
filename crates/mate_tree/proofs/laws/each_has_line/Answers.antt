use Rattle.mate_tree.proofs.ParryLaws.{each_has_line}
use Rattle.mate_tree.proofs.laws.each_has_line.Goals as goal

pub returns : goal.returns
returns c = each_has_line

use Rattle.mate_tree.proofs.ParryLaws.{parries_read}
use Rattle.mate_tree.proofs.laws.parries_read.Goals as goal

pub returns : goal.returns
returns c = parries_read c.truth_playable.ensures c.legal_listed.ensures

use Rattle.square_sets.proofs.Bits.{has_clear}
use Rattle.square_sets.proofs.members.without.Goals as goal

pub returns : goal.returns
returns c = λ s inside. has_clear c.args.set c.args.square s c.requires inside

use Rattle.square_sets.proofs.Bits.{has_set}
use Rattle.square_sets.proofs.members.with.Goals as goal

pub returns : goal.returns
returns c = λ s inside. has_set c.args.set c.args.square s c.requires inside

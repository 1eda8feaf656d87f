use Rattle.mate_desk.proofs.Bits.{has_set}
use Rattle.mate_desk.proofs.place_bits.with_place.Goals as goal

pub returns : goal.returns
returns c = λ p inside. has_set c.args.word c.args.place p c.requires inside

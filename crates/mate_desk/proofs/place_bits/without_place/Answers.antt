use Rattle.mate_desk.proofs.Bits.{has_clear}
use Rattle.mate_desk.proofs.place_bits.without_place.Goals as goal

pub returns : goal.returns
returns c = λ p inside. has_clear c.args.word c.args.place p c.requires inside

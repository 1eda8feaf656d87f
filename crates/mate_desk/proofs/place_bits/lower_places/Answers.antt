use Rattle.mate_desk.proofs.Bits.{has_lower}
use Rattle.mate_desk.proofs.place_bits.lower_places.Goals as goal

pub returns : goal.returns
returns c = λ p inside. has_lower c.args.word p

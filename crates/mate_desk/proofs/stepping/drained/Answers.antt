use Rattle.mate_desk.proofs.Emptied.{tells}
use Rattle.mate_desk.proofs.stepping.drained.Goals as goal

pub returns-clause-makes : goal.returns-clause-makes
returns-clause-makes c default jobs n room h m = rw c.is_drained.ensures (tells default c.args.desk.now jobs n room h m)

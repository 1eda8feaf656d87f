use Rattle.mate_desk.proofs.Leaving.{shut}
use Rattle.mate_desk.proofs.stepping.close.Goals as goal

pub returns-clause-makes : goal.returns-clause-makes
returns-clause-makes c default jobs n room h m = rw c.close.ensures (shut default c.args.desk.now jobs n room h m)

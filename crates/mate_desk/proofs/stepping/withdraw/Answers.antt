use Rattle.mate_desk.proofs.Withdrawals.{withdraws, not_withdrawn}
use Rattle.mate_desk.proofs.Finishing.{withdrawn_done}
use Rattle.mate_desk.proofs.stepping.withdraw.Goals as goal

pub returns-in-Ok-clause-makes : goal.returns-in-Ok-clause-makes
returns-in-Ok-clause-makes c default jobs n room h m =
    rw c.in-Ok.ensures.withdrawn (withdraws default c.args.desk.now jobs c.args.s c.args.n c.in-Ok.ensures.accepted n room h m)

pub returns-in-Err-clause-makes : goal.returns-in-Err-clause-makes
returns-in-Err-clause-makes c default jobs n room h m = rw c.in-Err.ensures.unchanged
    (not_withdrawn default c.args.desk.now jobs c.args.s c.args.n c.in-Err.refusal c.in-Err.ensures.refusal n room h m)

pub returns-in-Ok-clause-finished : goal.returns-in-Ok-clause-finished
returns-in-Ok-clause-finished c = rw c.in-Ok.ensures.withdrawn (withdrawn_done c.args.desk.now c.args.s c.args.n)

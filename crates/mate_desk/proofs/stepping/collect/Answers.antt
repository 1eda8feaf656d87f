use Rattle.mate_desk.proofs.Collecting.{collects, no_submitter}
use Rattle.mate_desk.proofs.Finishing.{answer_fits, collected_done}
use Rattle.mate_desk.proofs.stepping.collect.Goals as goal

pub returns-in-Ok-clause-makes : goal.returns-in-Ok-clause-makes
returns-in-Ok-clause-makes c default jobs n room h m =
    let e = c.in-Ok.ensures in
    rw (c.collected.ensures.reply, e.delivery, e.collected) (collects default c.args.desk.now jobs c.args.s e.known n room h m)

pub returns-in-Err-clause-makes : goal.returns-in-Err-clause-makes
returns-in-Err-clause-makes c default jobs n room h m =
    let e = c.in-Err.ensures in
    rw e.unchanged (no_submitter default c.args.desk.now jobs c.args.s e.unknown n room h m)

pub collected-requires : goal.collected-requires
collected-requires c = rw c.in-Ok.ensures.delivery (answer_fits c.args.desk.now c.args.s _ c.requires)

pub returns-in-Ok-clause-finished : goal.returns-in-Ok-clause-finished
returns-in-Ok-clause-finished c = rw (c.collected.ensures.reply, c.in-Ok.ensures.delivery, c.in-Ok.ensures.collected)
    (collected_done c.args.desk.now c.args.s)

use Rattle.mate_desk.proofs.OwnJobs.{own_read, taken_out}
use Rattle.mate_desk.proofs.solved.take_solved.Goals as goal

pub returns-clause-own : goal.returns-clause-own
returns-clause-own c =
    own_read c.args.solved.now.items c.deref.result.now c.in-Some.place c.swap_remove.result c.args.entry.now
    c.deref.ensures.value c.in-Some.ensures.inside c.in-Some.ensures.some c.swap_remove.ensures.value

pub returns-clause-gone : goal.returns-clause-gone
returns-clause-gone c f =
    rw c.swap_remove.ensures.items
    (taken_out f c.args.solved.now.items c.deref.result.now c.in-Some.place c.swap_remove.result c.args.entry.now
    c.deref.ensures.value c.in-Some.ensures.inside c.in-Some.ensures.some c.swap_remove.ensures.value c.requires.finished)

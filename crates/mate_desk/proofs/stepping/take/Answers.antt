use Rattle.std.proofs.Common.{refl, ◌≡◌, true, subst}
use Rattle.mate_desk.specs.Content.{Content, Out, has_ticket}
use Rattle.mate_desk.specs.Calls.{into_phase, everywhere, has_out}
use Rattle.mate_desk.proofs.Leaving.{taken, nothing_taken}
use Rattle.mate_desk.proofs.Finishing.{other_phase}
use Rattle.mate_desk.proofs.stepping.take.Goals as goal

pub returns-in-Some-clause-makes : goal.returns-in-Some-clause-makes
returns-in-Some-clause-makes c default n room h m =
    let e = c.in-Some.ensures in
    let o : has_out (everywhere (into_phase (has_ticket c.in-Some.job.ticket) Out) c.args.desk.now) c.in-Some.job ≡ true =
    subst (λ (d : Content). has_out d c.in-Some.job ≡ true) e.by_ticket e.given in
    rw (c.ticket-ticket.ensures, e.by_ticket, c.push.ensures.jobs)
    (taken default c.args.desk.now c.args.hand.now.jobs c.in-Some.job e.lowest o n room h m)

pub returns-in-None-clause-makes : goal.returns-in-None-clause-makes
returns-in-None-clause-makes c default n room h m = rw c.in-None.ensures.unchanged
    (nothing_taken default c.args.desk.now c.args.hand.now.jobs c.in-None.ensures.none n room h m)

pub returns-in-Some-clause-finished : goal.returns-in-Some-clause-finished
returns-in-Some-clause-finished c = rw c.in-Some.ensures.by_ticket (other_phase (has_ticket c.in-Some.job.ticket) Out c.args.desk.now refl)

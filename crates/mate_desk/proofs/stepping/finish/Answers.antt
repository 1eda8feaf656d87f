use Rattle.std.proofs.Common.{◌≡◌, true, false, ◌∙◌, sym, ap, Some, List, arith, slice_get}
use Rattle.std.proofs.lemmas.Option.{slice_get-get_or}
use Rattle.mate_jobs.specs.Jobs.{Task}
use Rattle.mate_desk.specs.Content.{Finished, has_ticket}
use Rattle.mate_desk.specs.Calls.{into_phase, everywhere, has_out}
use Rattle.mate_desk.proofs.Leaving.{finished, none_finished}
use Rattle.mate_desk.proofs.Hands.{out_get}
use Rattle.mate_desk.proofs.Finishing.{last_phase}
use Rattle.mate_desk.proofs.stepping.finish.Goals as goal

pub returns-then-len-i-clause-makes : goal.returns-then-len-i-clause-makes
returns-then-len-i-clause-makes c default n room h m = none_finished default c.args.desk.now c.args.hand.now.jobs c.args.i (omega arith) n room h m

pub returns-in-Ok-clause-makes : goal.returns-in-Ok-clause-makes
returns-in-Ok-clause-makes c default n room h m =
    let jobs : List Task = c.args.hand.now.jobs in
    let job : Task = c.remove-job.result in
    let at : slice_get jobs c.args.i ≡ Some job =
    slice_get-get_or jobs c.args.i job (omega arith) ∙ ap (λ (t : Task). Some t) (sym c.remove-job.ensures.value) in
    let e : c.finish.new.self ≡ everywhere (into_phase (has_ticket job.ticket) Finished) c.args.desk.now =
    c.in-Ok.ensures.by_ticket
    ∙ ap (λ (t : Task). everywhere (into_phase (has_ticket t.ticket) Finished) c.args.desk.now) c.solve.ensures.job in
    rw (c.ticket-ticket.ensures, e, c.remove-job.ensures.jobs)
    (finished default c.args.desk.now jobs c.args.i job at (out_get c.args.desk.now jobs c.args.i job at m.1.out) n room h m)

pub returns-in-Err-clause-makes : goal.returns-in-Err-clause-makes
returns-in-Err-clause-makes c default n room h m =
    let jobs : List Task = c.args.hand.now.jobs in
    let job : Task = c.remove-job.result in
    let at : slice_get jobs c.args.i ≡ Some job =
    slice_get-get_or jobs c.args.i job (omega arith) ∙ ap (λ (t : Task). Some t) (sym c.remove-job.ensures.value) in
    let o : has_out c.args.desk.now job ≡ true = out_get c.args.desk.now jobs c.args.i job at m.1.out in
    let p : has_out c.args.desk.now job ≡ false = ap (has_out c.args.desk.now) (sym c.solve.ensures.job) ∙ c.in-Err.ensures.stranger in
    cc

pub returns-in-Ok-clause-finished : goal.returns-in-Ok-clause-finished
returns-in-Ok-clause-finished c = rw c.in-Ok.ensures.by_ticket (last_phase c.solve.result.ticket c.args.desk.now c.kept.ensures.kept.distinct)

use Rattle.std.proofs.Common.{refl, ◌≡◌, true, false, ◌∙◌, sym, ap, Some, List, arith, slice_get}
use Rattle.std.proofs.lemmas.Option.{slice_get-get_or}
use Rattle.mate_jobs.specs.Jobs.{Task}
use Rattle.mate_desk.specs.Content.{Waiting, has_ticket}
use Rattle.mate_desk.specs.Calls.{into_phase, everywhere, has_out}
use Rattle.mate_desk.proofs.Leaving.{handed_back, none_handed_back}
use Rattle.mate_desk.proofs.Hands.{out_get}
use Rattle.mate_desk.proofs.Finishing.{other_phase}
use Rattle.mate_desk.proofs.stepping.hand_back.Goals as goal

pub returns-then-len-i-clause-makes : goal.returns-then-len-i-clause-makes
returns-then-len-i-clause-makes c default n room h m =
    none_handed_back default c.args.desk.now c.args.hand.now.jobs c.args.i (omega arith) n room h m

pub returns-in-Ok-clause-makes : goal.returns-in-Ok-clause-makes
returns-in-Ok-clause-makes c default n room h m =
    let jobs : List Task = c.args.hand.now.jobs in
    let job : Task = c.remove-unsolved.result in
    let at : slice_get jobs c.args.i ≡ Some job =
    slice_get-get_or jobs c.args.i job (omega arith) ∙ ap (λ (t : Task). Some t) (sym c.remove-unsolved.ensures.value) in
    let e : c.hand_back.new.self ≡ everywhere (into_phase (has_ticket job.ticket) Waiting) c.args.desk.now = c.in-Ok.ensures.by_ticket in
    rw (c.ticket-ticket.ensures, e, c.remove-unsolved.ensures.jobs) (handed_back default c.args.desk.now jobs c.args.i job at
    (out_get c.args.desk.now jobs c.args.i job at m.1.out) n room h m)

pub returns-in-Err-clause-makes : goal.returns-in-Err-clause-makes
returns-in-Err-clause-makes c default n room h m =
    let jobs : List Task = c.args.hand.now.jobs in
    let job : Task = c.remove-unsolved.result in
    let at : slice_get jobs c.args.i ≡ Some job =
    slice_get-get_or jobs c.args.i job (omega arith) ∙ ap (λ (t : Task). Some t) (sym c.remove-unsolved.ensures.value) in
    let o : has_out c.args.desk.now job ≡ true = out_get c.args.desk.now jobs c.args.i job at m.1.out in
    let p : has_out c.args.desk.now job ≡ false = c.in-Err.ensures.stranger in
    cc

pub returns-in-Ok-clause-finished : goal.returns-in-Ok-clause-finished
returns-in-Ok-clause-finished c = rw c.in-Ok.ensures.by_ticket (other_phase (has_ticket c.remove-unsolved.result.ticket) Waiting c.args.desk.now refl)

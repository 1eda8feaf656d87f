use Rattle.std.proofs.Common.{[], ◌⊎◌, ◌≡◌, ◌≢◌, subst, arith}
use Rattle.chess_notation.specs.Records.{RecordValue, Reads}
use Rattle.chess_notation.specs.EpdFaults.{IsFaultOf}
use Rattle.chess_notation.specs.declared.epd_faults.EpdFault.TheVariants.{NoMemory}
use Rattle.mate_desk.proofs.Submissions.{accepts, refuses, faulty}
use Rattle.mate_desk.proofs.Finishing.{submitted}
use Rattle.mate_desk.proofs.stepping.submit.Goals.{in-Ok-submit, in-Err-submit}
use Rattle.mate_desk.proofs.stepping.submit.Goals as goal

pub returns-clause-makes : goal.returns-clause-makes
returns-clause-makes c jobs n room h m =
    let reads : Reads c.args.line.now.items c.args.reader.now.default c.in-Ok.asked =
    subst (λ line. Reads line c.args.reader.now.default c.in-Ok.asked) c.deref.ensures.value c.in-Ok.ensures.reads in
    elim c.match-submit.branch [
      | in-Ok-submit w ↦ let e = w.in-Ok-submit.ensures in rw (w.result-is, e.ticket, e.waits) (accepts c.args.reader.now.default
          c.args.desk.now jobs c.args.s c.args.line.now c.in-Ok.asked reads e.accepted c.requires n room h m)
      | in-Err-submit w ↦ let e = w.in-Err-submit.ensures in rw (w.result-is, e.unchanged) (refuses c.args.reader.now.default c.args.desk.now
          jobs c.args.s c.args.line.now c.in-Ok.asked w.in-Err-submit.refusal reads e.refusal c.requires n room h m)
    ]

pub returns-in-Err-clause-makes : goal.returns-in-Err-clause-makes
returns-in-Err-clause-makes c jobs n room h m =
    let refused = subst (λ line. IsFaultOf line c.in-Err.fault ⊎ ((c.in-Err.fault ≡ NoMemory) × ((asked : RecordValue)
    × Reads line c.args.reader.now.default asked × (asked.rest ≢ [])))) c.deref.ensures.value c.in-Err.ensures.refused in
    faulty c.args.reader.now.default c.args.desk.now jobs c.args.s c.args.line.now c.in-Err.fault refused n room h m

pub returns-clause-finished : goal.returns-clause-finished
returns-clause-finished c = elim c.match-submit.branch [
  | in-Ok-submit w ↦ rw w.in-Ok-submit.ensures.waits (submitted c.args.desk.now c.args.s c.in-Ok.asked)
  | in-Err-submit w ↦ rw w.in-Err-submit.ensures.unchanged (omega arith)
]

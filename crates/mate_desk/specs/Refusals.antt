-- Why the calls of a desk are refused, and how each reason prints.
use Rattle.std.specs.Prelude.{◌≤◌, ℕ, List, codes}
use Rattle.mate_desk.specs.declared.refusals.DeskFault.{DeskFault}
use Rattle.mate_desk.specs.declared.refusals.DeskFault.TheVariants as fault
use Rattle.mate_desk.specs.declared.refusals.SubmitRefusal.{SubmitRefusal}
use Rattle.mate_desk.specs.declared.refusals.SubmitRefusal.TheVariants as submit
use Rattle.mate_desk.specs.declared.refusals.WithdrawRefusal.{WithdrawRefusal}
use Rattle.mate_desk.specs.declared.refusals.WithdrawRefusal.TheVariants as withdraw

-- so many submitters, each with so many pending records, can be served
abbrev pub AreServed : ℕ → Type 0
AreServed submitters = (1 ≤ submitters) × (submitters ≤ 16)

abbrev pub IsRoom : ℕ → Type 0
IsRoom room = (1 ≤ room) × (room ≤ 64)

abbrev pub desk_fault_name : DeskFault → List ℕ
desk_fault_name fault.BadSubmitters = codes "BadSubmitters"
desk_fault_name fault.BadRoom = codes "BadRoom"
desk_fault_name fault.NoMemory = codes "NoMemory"

abbrev pub submit_refusal_name : SubmitRefusal → List ℕ
submit_refusal_name submit.NoSuchSubmitter = codes "NoSuchSubmitter"
submit_refusal_name submit.Closed = codes "Closed"
submit_refusal_name submit.Full = codes "Full"
submit_refusal_name submit.Exhausted = codes "Exhausted"

abbrev pub withdraw_refusal_name : WithdrawRefusal → List ℕ
withdraw_refusal_name withdraw.NoSuchSubmitter = codes "NoSuchSubmitter"
withdraw_refusal_name withdraw.NotAccepted = codes "NotAccepted"
withdraw_refusal_name withdraw.Delivered = codes "Delivered"
withdraw_refusal_name withdraw.Withdrawn = codes "Withdrawn"

-- Why the calls of a window are refused, and how each reason prints: as its name, and a bad record as the fault of its line. Own to
-- this project.
use Rattle.std.specs.Prelude.{◌≡◌, ◌≢◌, ◌⊎◌, ℕ, List, [], codes}
use Rattle.chess_notation.specs.Records.{RecordValue, Reads}
use Rattle.chess_notation.specs.EpdFaults.{IsFaultOf, epd_fault_name}
use Rattle.chess_notation.specs.declared.epd_faults.EpdFault.TheVariants.{NoMemory}
use Rattle.room_ends.specs.declared.window_faults.WindowFault.{WindowFault}
use Rattle.room_ends.specs.declared.window_faults.WindowFault.TheVariants as submit
use Rattle.room_ends.specs.declared.window_faults.WithdrawFault.{WithdrawFault}
use Rattle.room_ends.specs.declared.window_faults.WithdrawFault.TheVariants as withdraw
use Rattle.room_ends.specs.declared.window_faults.ByeFault.{ByeFault}
use Rattle.room_ends.specs.declared.window_faults.ByeFault.TheVariants as bye

abbrev pub window_fault_name : WindowFault → List ℕ
window_fault_name submit.Gone = codes "Gone"
window_fault_name (submit.BadRecord fault) = epd_fault_name fault
window_fault_name submit.Busy = codes "Busy"
window_fault_name submit.Exhausted = codes "Exhausted"

abbrev pub withdraw_fault_name : WithdrawFault → List ℕ
withdraw_fault_name withdraw.Gone = codes "Gone"
withdraw_fault_name withdraw.NotSent = codes "NotSent"
withdraw_fault_name withdraw.Busy = codes "Busy"

abbrev pub bye_fault_name : ByeFault → List ℕ
bye_fault_name bye.Gone = codes "Gone"
bye_fault_name bye.Busy = codes "Busy"

-- The line says this record and no other.
abbrev pub SaysOnly : List ℕ → ℕ → RecordValue → Type 0
SaysOnly line default r = Reads line default r × ((other : RecordValue) → Reads line default other → r ≡ other)

abbrev pub SaysRecord : List ℕ → ℕ → Type 0
SaysRecord line default = (r : RecordValue) × Reads line default r

-- The line says a record that keeps an operation, for which memory is needed.
abbrev pub SaysKept : List ℕ → ℕ → Type 0
SaysKept line default = (r : RecordValue) × Reads line default r × (r.rest ≢ [])

-- What a refusal says of the line: a bad record has this fault, or says a record with operations to keep for which memory was refused;
-- a later reason is answered only for a line that says a record.
abbrev pub RefusesLine : List ℕ → ℕ → WindowFault → Type 0
RefusesLine line default submit.Gone = Unit {0}
RefusesLine line default (submit.BadRecord fault) = IsFaultOf line fault ⊎ ((fault ≡ NoMemory) × SaysKept line default)
RefusesLine line default submit.Busy = SaysRecord line default
RefusesLine line default submit.Exhausted = SaysRecord line default

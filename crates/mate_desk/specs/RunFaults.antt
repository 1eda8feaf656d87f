-- How the reasons why no step was made print.
use Rattle.std.specs.Prelude.{ℕ, List, codes}
use Rattle.mate_desk.specs.declared.runs.RunFault.{RunFault}
use Rattle.mate_desk.specs.declared.runs.RunFault.TheVariants as fault

abbrev pub run_fault_name : RunFault → List ℕ
run_fault_name fault.BadSubmitters = codes "BadSubmitters"
run_fault_name fault.BadRoom = codes "BadRoom"
run_fault_name fault.NoMemory = codes "NoMemory"

use Rattle.std.proofs.Common.{◌+◌, ◌<◌}
use Rattle.chess_notation.specs.declared.epd_faults.EpdFault.{EpdFault}
use Rattle.chess_notation.specs.EpdFaults.{fault_number, IsAmissBy}
use Rattle.chess_notation.proofs.epd_faults.operations_fault.Given as goal

abbrev pub invariant-loop-fault : goal.invariant-loop-fault
invariant-loop-fault l = (earlier : EpdFault) → 3 < fault_number earlier → fault_number earlier < l.fault-index + 4 → ¬ (IsAmissBy l.line earlier)

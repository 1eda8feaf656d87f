use Rattle.std.proofs.Common.{◌≡◌, ◌≤◌, drop, min}
use Rattle.chess_board.specs.Fields.{digits_value}
use Rattle.uci_commands.proofs.NumberValues.{value_behind}
use Rattle.uci_commands.proofs.marks.capped_value.Given as goal

abbrev pub invariant-loop-byte : goal.invariant-loop-byte
invariant-loop-byte l = record {
  value : min (value_behind l.value (drop l.byte-index l.digits)) 1000000000 ≡ min (digits_value l.digits) 1000000000;
  small : l.value ≤ 1000000000;
}

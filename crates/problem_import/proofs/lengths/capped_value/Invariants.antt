use Rattle.std.proofs.Common.{◌≡◌, ◌≤◌, drop, min}
use Rattle.chess_board.specs.Fields.{digits_value}
use Rattle.problem_import.proofs.CappedValues.{value_behind}
use Rattle.problem_import.proofs.lengths.capped_value.Given as goal

abbrev pub invariant-loop-byte : goal.invariant-loop-byte
invariant-loop-byte l = record {
  value : min (value_behind l.value (drop l.byte-index l.digits)) 16 ≡ min (digits_value l.digits) 16;
  small : l.value ≤ 16;
}

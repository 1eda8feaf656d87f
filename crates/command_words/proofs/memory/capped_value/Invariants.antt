use Rattle.std.proofs.Common.{◌≡◌, ◌≤◌, drop, min}
use Rattle.chess_board.specs.Fields.{digits_value}
use Rattle.command_words.proofs.Capped.{value_behind}
use Rattle.command_words.proofs.memory.capped_value.Given as goal

abbrev pub invariant-loop-byte : goal.invariant-loop-byte
invariant-loop-byte l = record {
  value : min (value_behind l.value (drop l.byte-index l.digits)) 33554433 ≡ min (digits_value l.digits) 33554433;
  small : l.value ≤ 33554433;
}

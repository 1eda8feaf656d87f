use Rattle.std.proofs.Common.{◌≡◌, take, drop, IsTrue}
use Rattle.std.specs.List.{list_all}
use Rattle.chess_notation.specs.Operations.{is_printable}
use Rattle.chess_notation.proofs.operations.opcode_text.Given as goal

abbrev pub invariant-loop-byte : goal.invariant-loop-byte
invariant-loop-byte l = record {
  bytes : l.text.bytes ≡ take l.byte-index l.word;
  printable : IsTrue (list_all is_printable (drop l.byte-index l.word));
}

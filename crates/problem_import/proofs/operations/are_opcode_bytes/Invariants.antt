use Rattle.std.proofs.Common.{◌≡◌, drop}
use Rattle.std.specs.List.{list_all}
use Rattle.chess_notation.specs.Operations.{is_opcode_byte}
use Rattle.problem_import.proofs.operations.are_opcode_bytes.Given as goal

abbrev pub invariant-loop-byte : goal.invariant-loop-byte
invariant-loop-byte l = list_all is_opcode_byte (drop l.byte-index l.text) ≡ list_all is_opcode_byte l.text

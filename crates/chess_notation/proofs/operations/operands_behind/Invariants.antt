use Rattle.std.proofs.Common.{◌≡◌, ◌++◌, drop, IsTrue, string_bytes}
use Rattle.std.specs.List.{list_all}
use Rattle.chess_notation.specs.Operations.{is_printable}
use Rattle.chess_notation.specs.Quoting.{squeezed_from}
use Rattle.chess_notation.specs.declared.quoting.Mode.TheVariants.{Plain}
use Rattle.chess_notation.proofs.operations.operands_behind.Given as goal

abbrev pub invariant-loop-byte : goal.invariant-loop-byte
invariant-loop-byte l = record {
  bytes : string_bytes l.operands ++ squeezed_from l.mode (drop l.byte-index l.text)
      ≡ squeezed_from Plain l.text;
  printable : IsTrue (list_all is_printable (drop l.byte-index l.text));
}

use Rattle.std.proofs.Common.{◌≡◌, drop}
use Rattle.std.specs.List.{list_all}
use Rattle.chess_notation.specs.Operations.{is_printable}
use Rattle.problem_import.proofs.letters.is_plain.Given as goal

abbrev pub invariant-loop-byte : goal.invariant-loop-byte
invariant-loop-byte l = list_all is_printable (drop l.byte-index l.line) ≡ list_all is_printable l.line

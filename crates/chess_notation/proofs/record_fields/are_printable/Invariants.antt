use Rattle.std.proofs.Common.{◌≡◌, drop}
use Rattle.std.specs.List.{list_all}
use Rattle.chess_notation.specs.Operations.{is_printable}
use Rattle.chess_notation.proofs.record_fields.are_printable.Given as goal

abbrev pub invariant-loop-byte : goal.invariant-loop-byte
invariant-loop-byte l = list_all is_printable (drop l.byte-index l.text) ≡ list_all is_printable l.text

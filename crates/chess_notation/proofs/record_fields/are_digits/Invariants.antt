use Rattle.std.proofs.Common.{◌≡◌, drop}
use Rattle.std.specs.List.{list_all}
use Rattle.chess_notation.specs.Operations.{is_digit}
use Rattle.chess_notation.proofs.record_fields.are_digits.Given as goal

abbrev pub invariant-loop-byte : goal.invariant-loop-byte
invariant-loop-byte l = list_all is_digit (drop l.byte-index l.text) ≡ list_all is_digit l.text

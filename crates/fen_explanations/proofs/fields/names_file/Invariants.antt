use Rattle.std.proofs.Common.{◌≡◌, drop}
use Rattle.std.specs.List.{list_any}
use Rattle.fen_explanations.specs.Fields.{is_file_letter}
use Rattle.fen_explanations.proofs.fields.names_file.Given as goal

abbrev pub invariant-loop-byte : goal.invariant-loop-byte
invariant-loop-byte l = list_any is_file_letter (drop l.byte-index l.field) ≡ list_any is_file_letter l.field

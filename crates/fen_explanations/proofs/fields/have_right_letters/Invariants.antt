use Rattle.std.proofs.Common.{◌≡◌, drop}
use Rattle.std.specs.List.{list_all}
use Rattle.fen_explanations.specs.Fields.{is_right_letter}
use Rattle.fen_explanations.proofs.fields.have_right_letters.Given as goal

abbrev pub invariant-loop-byte : goal.invariant-loop-byte
invariant-loop-byte l = list_all is_right_letter (drop l.byte-index l.field) ≡ list_all is_right_letter l.field

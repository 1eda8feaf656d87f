use Rattle.std.proofs.Common.{◌≡◌, drop}
use Rattle.std.specs.List.{list_all}
use Rattle.fen_explanations.specs.Fields.{is_letter_of_chess960}
use Rattle.fen_explanations.proofs.fields.have_letters_of_chess960.Given as goal

abbrev pub invariant-loop-byte : goal.invariant-loop-byte
invariant-loop-byte l = list_all is_letter_of_chess960 (drop l.byte-index l.field) ≡ list_all is_letter_of_chess960 l.field

use Rattle.std.proofs.Common.{◌≡◌, drop}
use Rattle.std.specs.List.{list_all}
use Rattle.move_words.specs.Languages.{is_capital}
use Rattle.move_words.proofs.languages.are_capitals.Given as goal

abbrev pub invariant-loop-byte : goal.invariant-loop-byte
invariant-loop-byte l = list_all is_capital (drop l.byte-index l.text) ≡ list_all is_capital l.text

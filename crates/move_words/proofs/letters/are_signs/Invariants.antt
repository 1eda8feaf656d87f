use Rattle.std.proofs.Common.{◌≡◌, drop}
use Rattle.std.specs.List.{list_all}
use Rattle.move_words.specs.Letters.{is_sign}
use Rattle.move_words.proofs.letters.are_signs.Given as goal

abbrev pub invariant-loop-byte : goal.invariant-loop-byte
invariant-loop-byte l = list_all is_sign (drop l.byte-index l.text) ≡ list_all is_sign l.text

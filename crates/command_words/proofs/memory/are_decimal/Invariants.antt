use Rattle.std.proofs.Common.{◌≡◌, drop}
use Rattle.std.specs.List.{list_all}
use Rattle.command_words.specs.Memory.{is_decimal}
use Rattle.command_words.proofs.memory.are_decimal.Given as goal

abbrev pub invariant-loop-byte : goal.invariant-loop-byte
invariant-loop-byte l = list_all is_decimal (drop l.byte-index l.text) ≡ list_all is_decimal l.text

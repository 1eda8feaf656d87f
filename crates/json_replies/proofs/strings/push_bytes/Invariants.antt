use Rattle.std.proofs.Common.{◌≡◌, ◌++◌, drop, flat_map}
use Rattle.json_replies.specs.Strings.{escaped}
use Rattle.json_replies.proofs.strings.push_bytes.Given as goal

abbrev pub invariant-loop-byte : goal.invariant-loop-byte
invariant-loop-byte l = l.fn.out.items ++ flat_map escaped l.text ≡ l.out.items ++ flat_map escaped (drop l.byte-index l.text)

use Rattle.std.proofs.Common.{◌≡◌, ◌++◌, drop}
use Rattle.json_replies.specs.Strings.{strings_from}
use Rattle.json_replies.specs.declared.strings.ScanState.TheVariants.{Between}
use Rattle.json_replies.proofs.strings.strings.Given as goal

abbrev pub invariant-loop-byte : goal.invariant-loop-byte
invariant-loop-byte l = strings_from Between l.operands ≡ l.text.items ++ strings_from l.state (drop l.byte-index l.operands)

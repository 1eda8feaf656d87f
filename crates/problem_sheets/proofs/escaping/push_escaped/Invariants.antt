use Rattle.std.proofs.Common.{◌≡◌, ◌++◌, take}
use Rattle.problem_sheets.specs.Escaping.{escaped}
use Rattle.problem_sheets.proofs.escaping.push_escaped.Given as goal

abbrev pub invariant-loop-byte : goal.invariant-loop-byte
invariant-loop-byte l = l.text.items ≡ l.fn.text.items ++ escaped (take l.byte-index l.bytes)

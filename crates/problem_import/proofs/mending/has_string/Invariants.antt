use Rattle.std.proofs.Common.{◌≡◌, drop}
use Rattle.problem_import.specs.Numbers.{has_string}
use Rattle.problem_import.proofs.mending.has_string.Given as goal

abbrev pub invariant-loop-byte : goal.invariant-loop-byte
invariant-loop-byte l = has_string (drop l.byte-index l.text) ≡ has_string l.text

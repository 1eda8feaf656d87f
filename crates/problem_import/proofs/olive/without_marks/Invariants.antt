use Rattle.std.proofs.Common.{◌≡◌, map, take}
use Rattle.problem_import.specs.OliveProblems.{without_mark}
use Rattle.problem_import.proofs.olive.without_marks.Given as goal

abbrev pub invariant-loop-byte : goal.invariant-loop-byte
invariant-loop-byte l = l.plain.items ≡ map without_mark (take l.byte-index l.text)

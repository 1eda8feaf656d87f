use Rattle.std.proofs.Common.{◌≡◌, drop}
use Rattle.problem_import.specs.Solutions.{is_try}
use Rattle.problem_import.proofs.solutions.is_try.Given as goal

abbrev pub invariant-loop-byte : goal.invariant-loop-byte
invariant-loop-byte l = is_try (drop l.byte-index l.word) ≡ is_try l.word

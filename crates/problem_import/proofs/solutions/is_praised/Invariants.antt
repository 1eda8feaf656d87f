use Rattle.std.proofs.Common.{◌≡◌, drop}
use Rattle.problem_import.specs.Solutions.{is_praised}
use Rattle.problem_import.proofs.solutions.is_praised.Given as goal

abbrev pub invariant-loop-byte : goal.invariant-loop-byte
invariant-loop-byte l = is_praised (drop l.byte-index l.word) ≡ is_praised l.word

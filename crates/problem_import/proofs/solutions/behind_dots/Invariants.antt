use Rattle.std.proofs.Common.{◌≡◌, drop}
use Rattle.problem_import.specs.Solutions.{behind_front, is_dot}
use Rattle.problem_import.proofs.solutions.behind_dots.Given as goal

abbrev pub invariant-loop-index : goal.invariant-loop-index
invariant-loop-index l = behind_front is_dot (drop l.index l.text) ≡ behind_front is_dot l.text

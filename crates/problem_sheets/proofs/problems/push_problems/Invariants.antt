use Rattle.std.proofs.Common.{◌≡◌, ◌+◌, ◌++◌, drop, false}
use Rattle.problem_sheets.specs.Problems.{problems_from}
use Rattle.problem_sheets.proofs.problems.push_problems.Given as goal

abbrev pub invariant-loop-index : goal.invariant-loop-index
invariant-loop-index l =
    l.text.items ++ problems_from false (l.index + 1) (drop l.index l.problems) ≡ l.fn.text.items ++ problems_from false 1 l.problems

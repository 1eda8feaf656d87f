use Rattle.std.proofs.Common.{◌≡◌, ◌≤◌}
use Rattle.problem_sheets.specs.Problems.{men_below}
use Rattle.problem_sheets.proofs.problems.count_of.Given as goal

abbrev pub invariant-loop-number : goal.invariant-loop-number
invariant-loop-number l = record {
  count : l.count ≡ men_below l.number l.colour l.position.men;
  small : l.count ≤ l.number;
}

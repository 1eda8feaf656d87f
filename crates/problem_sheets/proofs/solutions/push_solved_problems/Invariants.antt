use Rattle.std.proofs.Common.{◌≡◌, ◌+◌, ◌++◌, drop, true}
use Rattle.problem_sheets.specs.Problems.{problems_from}
use Rattle.problem_sheets.specs.Solutions.{solutions_from}
use Rattle.problem_sheets.proofs.solutions.push_solved_problems.Given as goal

abbrev pub invariant-loop-index : goal.invariant-loop-index
invariant-loop-index l = record {
  text : l.text.items ++ problems_from true (l.index + 1) (drop l.index l.problems) ≡ l.fn.text.items ++ problems_from true 1 l.problems;
  solutions : l.solutions.items ++ solutions_from l.notation.pieces (l.index + 1) (drop l.index l.problems) ≡ l.fn.solutions.items
      ++ solutions_from l.notation.pieces 1 l.problems;
  room : l.memo.room ≡ l.fn.memo.room;
}

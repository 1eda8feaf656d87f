use Rattle.std.proofs.Common.{◌∙◌, ◌++◌, true}
use Rattle.problem_sheets.specs.Problems.{problems_from}
use Rattle.problem_sheets.specs.Solutions.{solutions_from}
use Rattle.problem_sheets.proofs.ProblemsInTurn.{problems_more, solutions_more}
use Rattle.problem_sheets.proofs.solutions.push_solved_problems.Goals as goal

pub loop-index-preserved : goal.loop-index-preserved
loop-index-preserved c = record {
  text = problems_more c.loop-index.text.items c.push_solved_problem.new.text.items
      (c.args.text.now.items ++ problems_from true 1 c.args.problems.now)
      c.loop-index.index c.args.problems.now c.index-problems-index.result true c.loop-index-test.true
      c.index-problems-index.is c.loop-index.invariant.text c.in_ok-push_solved_problem.ensures.text;
  solutions = solutions_more c.loop-index.solutions.items c.push_solved_problem.new.solutions.items
      (c.args.solutions.now.items ++ solutions_from c.args.notation.now.pieces 1 c.args.problems.now)
      c.loop-index.index c.args.problems.now c.index-problems-index.result c.args.notation.now.pieces c.loop-index-test.true
      c.index-problems-index.is c.loop-index.invariant.solutions c.in_ok-push_solved_problem.ensures.solutions;
  room = c.in_ok-push_solved_problem.ensures.room ∙ c.loop-index.invariant.room;
}

use Rattle.std.proofs.Common.{◌++◌, false}
use Rattle.problem_sheets.specs.Problems.{problems_from}
use Rattle.problem_sheets.proofs.ProblemsInTurn.{problems_more}
use Rattle.problem_sheets.proofs.problems.push_problems.Goals as goal

pub loop-index-preserved : goal.loop-index-preserved
loop-index-preserved c =
    problems_more c.loop-index.text.items c.push_unsolved_problem.new.text.items (c.args.text.now.items ++ problems_from false 1 c.args.problems.now)
    c.loop-index.index c.args.problems.now c.index-problems-index.result false c.loop-index-test.true c.index-problems-index.is
    c.loop-index.invariant c.in_ok-push_unsolved_problem.ensures

use Rattle.problem_import.proofs.AnsweredProblems.{answers_import}
use Rattle.problem_import.proofs.problem_lines.answers_are_imports.Goals as goal

pub returns : goal.returns
returns g c keep given handler = answers_import keep given (g.H.ProblemHandler.records handler) (g.H.ProblemHandler.rows handler)

use Rattle.std.proofs.Common.{[], ◌∷◌, ◌++◌}
use Rattle.problem_import.proofs.AnsweredProblems.{long_answers, none_found}
use Rattle.problem_import.proofs.AnsweredSources.{no_answer}
use Rattle.problem_import.proofs.problem_lines.ProblemLinesLineHandler.refuse_long.Goals as goal

pub returns-then-passes-clause-reply : goal.returns-then-passes-clause-reply
returns-then-passes-clause-reply g c =
    long_answers c.args.self.now.printing.keep c.args.self.now.printing.bound (g.H.ProblemHandler.records c.args.self.now.handler.now)
    (g.H.ProblemHandler.rows c.args.self.now.handler.now) c.args.self.now.printing.letters.moves c.args.number c.new-answers.result.text.items c.output.result.text.items c.new-answers.result.any c.output.result.refused
    (λ line.
    let (lines, some, (answered, counted)) = none_found c.args.self.now.printing.keep c.args.self.now.printing.bound (g.H.ProblemHandler.records c.args.self.now.handler.now)
    (g.H.ProblemHandler.rows c.args.self.now.handler.now) line c.get.result c.new-answers.result c.new-answers.ensures.text
    c.new-answers.ensures.any c.new-answers.ensures.counts in (lines, answered)) c.output.ensures.text c.output.ensures.refused

pub returns-clause-reply : goal.returns-clause-reply
returns-clause-reply g c =
    long_answers c.args.self.now.printing.keep c.args.self.now.printing.bound (g.H.ProblemHandler.records c.args.self.now.handler.now)
    (g.H.ProblemHandler.rows c.args.self.now.handler.now) c.args.self.now.printing.letters.moves c.args.number c.push_refusal.new.answers.text.items c.output-2.result.text.items c.push_refusal.new.answers.any
    c.output-2.result.refused
    (λ line.
    let (lines, some, told) = none_found c.args.self.now.printing.keep c.args.self.now.printing.bound (g.H.ProblemHandler.records c.args.self.now.handler.now)
    (g.H.ProblemHandler.rows c.args.self.now.handler.now) line c.get.result c.new-answers.result c.new-answers.ensures.text c.new-answers.ensures.any
    c.new-answers.ensures.counts in
    (_, (c.in_ok-push_refusal.ensures.answered line lines c.get.result told).0)) c.output-2.ensures.text c.output-2.ensures.refused

pub returns-then-passes-clause-behind : goal.returns-then-passes-clause-behind
returns-then-passes-clause-behind g c = λ line filled long before. (
  returns-then-passes-clause-reply g c line filled long,
  rw c.output.ensures.text (no_answer c.args.self.now.printing.keep c.args.self.now.printing.bound (g.H.ProblemHandler.records c.args.self.now.handler.now)
      (g.H.ProblemHandler.rows c.args.self.now.handler.now) c.args.self.now.printing.letters.placements (before ++ line ∷ []) c.new-answers.result.text.items c.new-answers.ensures.text),
)

pub returns-clause-behind : goal.returns-clause-behind
returns-clause-behind g c = λ line filled long before. (
  returns-clause-reply g c line filled long,
  rw c.output-2.ensures.text (c.in_ok-push_refusal.ensures.from c.args.self.now.printing.letters.placements (before ++ line ∷ [])
      (no_answer c.args.self.now.printing.keep c.args.self.now.printing.bound (g.H.ProblemHandler.records c.args.self.now.handler.now)
      (g.H.ProblemHandler.rows c.args.self.now.handler.now) c.args.self.now.printing.letters.placements (before ++ line ∷ []) c.new-answers.result.text.items
      c.new-answers.ensures.text)),
)

use Rattle.std.proofs.Common.{◌∙◌, ◌++◌, ap, refl}
use Rattle.problem_import.specs.inside.Counted.{is_no_bound, with_refusal}
use Rattle.problem_import.proofs.AnsweredProblems.{refusal_answered}
use Rattle.problem_import.proofs.AnsweredSources.{refusal_from}
use Rattle.problem_import.proofs.Counted.{refusal_counted}
use Rattle.problem_import.proofs.problem_lines.ProblemLines.push_refusal.Goals as goal

pub returns-clause-answered : goal.returns-clause-answered
returns-clause-answered g c = λ line lines first (answered, counted). (
  refusal_answered c.args.self.now.printing.keep c.args.self.now.printing.bound (g.H.ProblemHandler.records c.args.self.now.handler.now)
      (g.H.ProblemHandler.rows c.args.self.now.handler.now) line lines
      c.in_ok-row.row.items c.args.answers.now.text.items c.push.new.self.text.items c.args.number c.args.fault c.args.answers.now.any
      c.push.new.self.any c.in_ok-row.ensures
      (c.in_ok-push.ensures.text ∙ ap (λ t. c.args.answers.now.text.items ++ t) c.as_slice.ensures.value) c.in_ok-push.ensures.any answered,
  refusal_counted first c.args.answers.now.counts c.with_refusal-answers.result lines _ c.args.number c.args.fault refl
      (c.with_refusal-answers.ensures ∙ ap (with_refusal (is_no_bound c.args.fault)) c.in_ok-push.ensures.counts) counted,
)

pub returns-clause-from : goal.returns-clause-from
returns-clause-from g c = λ letters lines.
    refusal_from c.args.self.now.printing.keep c.args.self.now.printing.bound (g.H.ProblemHandler.records c.args.self.now.handler.now)
    (g.H.ProblemHandler.rows c.args.self.now.handler.now) letters lines
    c.in_ok-row.row.items c.args.answers.now.text.items c.push.new.self.text.items c.args.number c.args.fault c.in_ok-row.ensures
    (c.in_ok-push.ensures.text ∙ ap (λ t. c.args.answers.now.text.items ++ t) c.as_slice.ensures.value)

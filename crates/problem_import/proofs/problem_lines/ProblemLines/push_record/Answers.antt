use Rattle.std.proofs.Common.{◌∙◌, ◌++◌, ap, refl}
use Rattle.problem_import.specs.inside.Counted.{with_record}
use Rattle.problem_import.proofs.AnsweredProblems.{record_answered}
use Rattle.problem_import.proofs.AnsweredSources.{record_from}
use Rattle.problem_import.proofs.Counted.{record_counted}
use Rattle.problem_import.proofs.problem_lines.ProblemLines.push_record.Goals as goal

pub returns-clause-answered : goal.returns-clause-answered
returns-clause-answered g c = λ line lines first kind (answered, counted). (
  record_answered c.args.self.now.printing.keep c.args.self.now.printing.bound (g.H.ProblemHandler.records c.args.self.now.handler.now)
      (g.H.ProblemHandler.rows c.args.self.now.handler.now) line lines
      c.args.made.now c.in_ok-output.output.text.items c.args.answers.now.text.items c.push.new.self.text.items c.args.number
      c.in_ok-output.output.refused c.args.answers.now.any c.push.new.self.any c.requires.record kind c.in_ok-output.ensures
      (c.in_ok-push.ensures.text ∙ ap (λ t. c.args.answers.now.text.items ++ t) c.as_slice.ensures.value) c.in_ok-push.ensures.any answered,
  record_counted first c.args.answers.now.counts c.with_record-answers.result lines c.args.made.now _ c.args.says c.requires.record c.requires.said refl
      (c.with_record-answers.ensures ∙ ap (with_record c.args.says) c.in_ok-push.ensures.counts) counted,
)

pub returns-clause-ends : goal.returns-clause-ends
returns-clause-ends g c = (
  c.args.answers.now.text.items,
  c.in_ok-output.output.text.items,
  c.in_ok-output.output.refused,
  c.in_ok-output.ensures,
  c.in_ok-push.ensures.text ∙ ap (λ t. c.args.answers.now.text.items ++ t) c.as_slice.ensures.value,
)

pub returns-clause-from : goal.returns-clause-from
returns-clause-from g c = λ letters lines from.
    record_from c.args.self.now.printing.keep c.args.self.now.printing.bound (g.H.ProblemHandler.records c.args.self.now.handler.now)
    (g.H.ProblemHandler.rows c.args.self.now.handler.now) letters lines
    c.args.made.now c.in_ok-output.output.text.items c.args.answers.now.text.items c.push.new.self.text.items c.args.number
    c.in_ok-output.output.refused c.requires.record from c.in_ok-output.ensures
    (c.in_ok-push.ensures.text ∙ ap (λ t. c.args.answers.now.text.items ++ t) c.as_slice.ensures.value)

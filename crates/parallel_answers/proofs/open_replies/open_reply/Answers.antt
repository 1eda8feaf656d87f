use Rattle.std.proofs.lemmas.Result.{IfOk-weaker}
use Rattle.text_lines.specs.Lines.{without_cr}
use Rattle.text_lines.proofs.PassedLines.{passed_as}
use Rattle.parallel_answers.proofs.Counting.{unmarked_before}
use Rattle.parallel_answers.proofs.Gaining.{open_on}
use Rattle.parallel_answers.proofs.open_replies.open_reply.Goals as goal

pub returns-then-number-lines-clause-open : goal.returns-then-number-lines-clause-open
returns-then-number-lines-clause-open g c = λ whole is. (
  passed_as (g.T.LineTask.replies c.args.lines.now.by.now) c.args.lines.now.from c.args.number (without_cr whole) _ _ c.if-number-lines.true
      c.nothing.ensures.text c.nothing.ensures.none,
  unmarked_before (g.T.LineTask.marks c.args.lines.now.by.now) c.args.lines.now.from c.args.number (without_cr whole) _ c.if-number-lines.true
      c.nothing.ensures.mark,
)

pub returns-clause-open : goal.returns-clause-open
returns-clause-open g c =
    IfOk-weaker c.looked_at.result _ _
    (λ reply each whole is. open_on (g.T.LineTask.replies c.args.lines.now.by.now) (g.T.LineTask.waits c.args.lines.now.by.now)
    (g.T.LineTask.marks c.args.lines.now.by.now) c.args.lines.now.from c.args.number reply whole c.if-number-lines.false (each whole is))
    c.looked_at.ensures.open

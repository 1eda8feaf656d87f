use Rattle.std.proofs.lemmas.Result.{IfErr-weaker, IfOk-weaker}
use Rattle.text_lines.proofs.PassedLines.{reply_on, reply_to_first_on}
use Rattle.parallel_answers.proofs.Counting.{known_first}
use Rattle.parallel_answers.proofs.ordered_answers.answer_in_order.Goals as goal

pub returns-clause-ok : goal.returns-clause-ok
returns-clause-ok g c =
    let lines = c.args.answering.now.lines.now in
    IfOk-weaker c.answer_each.result _ _
    (λ refused (bytes, text, may, (reply, counts), gained). (
      bytes,
      text,
      may,
      reply_on (g.T.LineTask.replies lines.by.now) lines.from bytes text refused c.requires.from reply,
      gained,
    ))
    c.answer_each.ensures.ok

pub returns-clause-counted : goal.returns-clause-counted
returns-clause-counted g c =
    let lines = c.args.answering.now.lines.now in
    IfOk-weaker c.answer_each.result _ _
    (λ refused (bytes, text, may, (reply, counts), gained) before known. (
      bytes,
      text,
      may,
      (
        reply_on (g.T.LineTask.replies lines.by.now) lines.from bytes text refused c.requires.from reply,
        counts before (known_first (g.T.LineTask.knows lines.by.now) lines.from c.args.tally.now before known),
      ),
      gained,
    ))
    c.answer_each.ensures.ok

pub returns-clause-err : goal.returns-clause-err
returns-clause-err g c =
    let lines = c.args.answering.now.lines.now in
    IfErr-weaker c.answer_each.result _ _
    (λ stop (bytes, text, may, reply, gained). (
      bytes,
      text,
      may,
      reply_to_first_on (g.T.LineTask.replies lines.by.now) lines.from bytes text c.requires.from reply,
      gained,
    ))
    c.answer_each.ensures.err

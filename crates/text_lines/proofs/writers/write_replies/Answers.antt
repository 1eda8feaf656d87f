use Rattle.std.proofs.lemmas.Result.{IfErr-weaker, IfOk-weaker}
use Rattle.text_lines.proofs.PassedLines.{followed_on, followed_to_first, knows_first, reply_on, reply_to_first_on}
use Rattle.text_lines.proofs.writers.write_replies.Goals as goal

pub returns-clause-ok : goal.returns-clause-ok
returns-clause-ok g c =
    IfOk-weaker c.write_each.result _ _
    (λ refused (bytes, text, may, (reply, marks), gained). (
      bytes,
      text,
      may,
      reply_on (g.W.LineWriter.replies c.args.lines.now.by.now) c.args.lines.now.from bytes text refused c.requires.from reply,
      gained,
    ))
    c.write_each.ensures.marked

pub returns-clause-marked : goal.returns-clause-marked
returns-clause-marked g c =
    IfOk-weaker c.write_each.result _ _
    (λ refused (bytes, text, may, (reply, marks), gained). (
      bytes,
      text,
      may,
      (
        reply_on (g.W.LineWriter.replies c.args.lines.now.by.now) c.args.lines.now.from bytes text refused c.requires.from reply,
        reply_on (g.W.LineWriter.marks c.args.lines.now.by.now) c.args.lines.now.from bytes text _ c.requires.from marks,
      ),
      gained,
    ))
    c.write_each.ensures.marked

pub returns-clause-err : goal.returns-clause-err
returns-clause-err g c =
    IfErr-weaker c.write_each.result _ _
    (λ stop (bytes, text, may, reply, gained). (
      bytes,
      text,
      may,
      reply_to_first_on (g.W.LineWriter.replies c.args.lines.now.by.now) c.args.lines.now.from bytes text c.requires.from reply,
      gained,
    ))
    c.write_each.ensures.err

pub returns-clause-followed : goal.returns-clause-followed
returns-clause-followed g c =
    let from = c.args.lines.now.from in
    IfOk-weaker c.write_each.result _ _
    (λ refused followed known.
    let (bytes, text, may, (replies, then), gained) =
    followed (knows_first (g.W.LineWriter.knows c.args.lines.now.by.now) c.args.memory.now from known) in (
      bytes,
      text,
      may,
      (followed_on (g.W.LineWriter.follows c.args.lines.now.by.now) from bytes text refused c.requires.from replies, then),
      gained,
    ))
    c.write_each.ensures.followed

pub returns-clause-broken : goal.returns-clause-broken
returns-clause-broken g c =
    let from = c.args.lines.now.from in
    IfErr-weaker c.write_each.result _ _
    (λ stop broken known.
    let (bytes, text, may, replies, gained) =
    broken (knows_first (g.W.LineWriter.knows c.args.lines.now.by.now) c.args.memory.now from known) in
    (bytes, text, may, followed_to_first (g.W.LineWriter.follows c.args.lines.now.by.now) from bytes text c.requires.from replies, gained))
    c.write_each.ensures.broken

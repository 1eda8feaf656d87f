use Rattle.std.proofs.Common.{[], inl, refl}
use Rattle.std.proofs.lemmas.Result.{IfErr-weaker, IfOk-weaker}
use Rattle.mail_lines.proofs.WrittenMails.{breaks_from, passed_written, written_from}
use Rattle.mail_lines.proofs.line_replies.answer_from.Goals as goal

pub returns-then-number-lines-clause-ok : goal.returns-then-number-lines-clause-ok
returns-then-number-lines-clause-ok g c text is =
    passed_written (g.H.LineHandler.replies c.args.lines.now.by.now) (g.H.LineHandler.knows c.args.lines.now.by.now)
    (g.H.LineHandler.follows c.args.lines.now.by.now) c.args.lines.now.from c.args.number text c.args.memory.now
    (g.O.Write.contents c.args.out.now) c.if-number-lines.true
    (λ lines known. g.met.H.LineHandler.passes c.args.lines.now.by.now c.args.memory.now lines [] (inl refl) known)

pub returns-clause-ok : goal.returns-clause-ok
returns-clause-ok g c =
    IfOk-weaker c.answer_line.result _ _
    (λ refused written text is. written_from (g.H.LineHandler.replies c.args.lines.now.by.now) (g.H.LineHandler.knows c.args.lines.now.by.now)
    (g.H.LineHandler.follows c.args.lines.now.by.now) c.args.lines.now.from c.args.number text _ _ _ _ refused c.if-number-lines.false
    (written text is))
    c.answer_line.ensures.ok

pub returns-clause-err : goal.returns-clause-err
returns-clause-err g c =
    IfErr-weaker c.answer_line.result _ _
    (λ stop breaks text is. breaks_from (g.H.LineHandler.replies c.args.lines.now.by.now) (g.H.LineHandler.knows c.args.lines.now.by.now)
    (g.H.LineHandler.follows c.args.lines.now.by.now) c.args.lines.now.from c.args.number text _ _ _ stop c.if-number-lines.false
    (breaks text is))
    c.answer_line.ensures.err

use Rattle.std.proofs.KnownBytes.{Keeps-refl}
use Rattle.text_lines.proofs.WrittenReplies.{whole_breaks, whole_few, whole_replied}
use Rattle.text_lines.proofs.replies.WholeLineWriter.write_reply.Goals as goal

pub returns-in-Ok-clause-reply : goal.returns-in-Ok-clause-reply
returns-in-Ok-clause-reply g c =
    whole_replied _ _ _ c.in-Ok.output.text.items c.in-Ok.output.refused c.put_reply.result
    (c.in-Ok.ensures.reply, c.in-Ok.ensures.marked, c.in-Ok.ensures.behind) c.put_reply.ensures.ok

pub returns-in-Ok-clause-err : goal.returns-in-Ok-clause-err
returns-in-Ok-clause-err g c =
    whole_breaks _ _ _ c.in-Ok.output.text.items c.in-Ok.output.refused c.put_reply.result
    (c.in-Ok.ensures.reply, λ before many known. (c.in-Ok.ensures.behind before many known).0) c.put_reply.ensures.err

pub returns-in-Ok-clause-few : goal.returns-in-Ok-clause-few
returns-in-Ok-clause-few g c = whole_few _ c.in-Ok.output.refused c.put_reply.result c.in-Ok.ensures.few c.put_reply.ensures.ok

pub returns-in-Err-clause-err : goal.returns-in-Err-clause-err
returns-in-Err-clause-err g c = Keeps-refl (g.O.Write.contents c.args.out.now)

use Rattle.mate_tree.specs.TreeReplies.{answered, tree_reply}
use Rattle.mate_tree.specs.inside.Replies.{IsJust, IsRefusal}
use Rattle.mate_tree.proofs.RefusedLines.{breaks_read, few_refused, refused_breaks, refused_replied, reply_refused}
use Rattle.mate_tree.proofs.tree_replies.TreeRepliesLineWriter.write_reply.Goals as goal

pub returns-in-Ok-write_record-clause-reply : goal.returns-in-Ok-write_record-clause-reply
returns-in-Ok-write_record-clause-reply g c = (
  tree_reply c.args.self.now.form c.in-Ok.record,
  (answered c.in-Ok.record c.requires.filled c.in-Ok.ensures.reads, tt, λ before many known. (tt, tt)),
  c.in-Ok-write_record.ensures.ok,
)

pub returns-in-Ok-clause-err : goal.returns-in-Ok-clause-err
returns-in-Ok-clause-err g c =
    breaks_read (IsJust (tree_reply c.args.self.now.form c.in-Ok.record) 0)
    _ _ _ c.in-Err-write_record.stop
    (λ text n (is, none). (rw (is, none) (answered c.in-Ok.record c.requires.filled c.in-Ok.ensures.reads), λ before many known. tt))
    c.in-Err-write_record.ensures.err

pub returns-clause-reply : goal.returns-clause-reply
returns-clause-reply g c =
    refused_replied _ _ _ c.args.number c.in-Err.fault c.write_refused.result
    (λ text n is. (
      reply_refused c.args.self.now.form c.args.self.now.default c.args.number c.args.line.now c.in-Err.fault
          c.requires.filled c.in-Err.ensures.refused text n is,
      tt,
      λ before many known. (tt, tt),
    ))
    c.write_refused.ensures.ok

pub returns-clause-err : goal.returns-clause-err
returns-clause-err g c =
    refused_breaks (IsRefusal c.args.number c.in-Err.fault)
    _ _ _ c.write_refused.result
    (λ text n is. (
      reply_refused c.args.self.now.form c.args.self.now.default c.args.number c.args.line.now c.in-Err.fault
          c.requires.filled c.in-Err.ensures.refused text n is,
      λ before many known. tt,
    ))
    c.write_refused.ensures.err

pub returns-clause-few : goal.returns-clause-few
returns-clause-few g c = few_refused _ _ c.write_refused.result c.write_refused.ensures.ok

use Rattle.chess_notation.specs.declared.epd_faults.EpdFault.TheVariants as fault
use Rattle.mate_tree.specs.inside.Replies.{IsRefusal}
use Rattle.mate_tree.proofs.RefusedLines.{few_refused, long_refused, refused_breaks, refused_replied}
use Rattle.mate_tree.proofs.tree_replies.TreeRepliesLineWriter.refuse_long.Goals as goal

pub returns-clause-reply : goal.returns-clause-reply
returns-clause-reply g c =
    refused_replied _ _ _ c.args.number fault.TooLong c.write_refused.result
    (λ text n is. (long_refused c.args.self.now.form c.args.self.now.default c.args.number text n is, λ line some long. tt, λ line some long before. tt))
    c.write_refused.ensures.ok

pub returns-clause-err : goal.returns-clause-err
returns-clause-err g c =
    refused_breaks (IsRefusal c.args.number fault.TooLong) _ _ _ c.write_refused.result
    (λ text n is line some long. (long_refused c.args.self.now.form c.args.self.now.default c.args.number text n is line some long, λ before. tt))
    c.write_refused.ensures.err

pub returns-clause-few : goal.returns-clause-few
returns-clause-few g c = few_refused _ _ c.write_refused.result c.write_refused.ensures.ok

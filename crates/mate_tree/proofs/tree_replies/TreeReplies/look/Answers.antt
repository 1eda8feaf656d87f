use Rattle.mate_tree.proofs.RefusedLines.{reply_refused}
use Rattle.mate_tree.proofs.tree_replies.TreeReplies.look.Goals as goal

pub returns-clause-reply : goal.returns-clause-reply
returns-clause-reply c some = reply_refused c.args.self.now.form c.args.self.now.default c.args.number c.args.line.now c.in-Err.fault some
    c.in-Err.ensures.refused c.in_ok-output.output.text.items c.in_ok-output.output.refused
    (c.in_ok-output.ensures.fault, c.in_ok-output.ensures.text, c.in_ok-output.ensures.one)

use Rattle.parallel_answers.specs.inside.OpenReplies.{rules_from}
use Rattle.parallel_answers.proofs.Gaining.{on_ok, opened}
use Rattle.parallel_answers.proofs.ordered_answers.Answering.hand_in.Goals as goal

pub returns-clause-opened : goal.returns-clause-opened
returns-clause-opened g c =
    let lines = c.args.self.now.lines.now in
    let own = rules_from (g.T.LineTask.replies lines.by.now) (g.T.LineTask.waits lines.by.now) (g.T.LineTask.marks lines.by.now) lines.from in
    on_ok c.add.result _ _ c.add.ensures.replies (λ is whole lines taken at left.
    opened own c.args.replies.now.first c.args.number c.args.replies.now.replies.items
    c.add.new.self.replies.items c.in_ok-reply.reply lines whole is at (c.in_ok-reply.ensures.open whole taken) left)

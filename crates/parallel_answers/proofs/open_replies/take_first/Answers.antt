use Rattle.std.proofs.Common.{◌≡◌, ◌∷◌, rules}
use Rattle.parallel_answers.specs.inside.OpenReplies.{KnownFrom, rules_from}
use Rattle.parallel_answers.proofs.Gaining.{gains_first}
use Rattle.parallel_answers.proofs.open_replies.take_first.Goals as goal

pub returns-clause-some : goal.returns-clause-some
returns-clause-some g c =
    let lines = c.args.lines.now in
    let own = rules_from (g.T.LineTask.replies lines.by.now) (g.T.LineTask.waits lines.by.now) (g.T.LineTask.marks lines.by.now) lines.from in
    let knows = KnownFrom (g.T.LineTask.knows lines.by.now) lines.from in
    let taken : c.args.replies.now.replies.items ≡ c.in-Some.open ∷ c.pop_front.new.self.items = search rules in
    gains_first own knows c.args.replies.now _ c.args.tally.now c.count_reply.new.tally c.in-Some.open c.in_ok-reply.reply taken (search rules)
    (search rules) c.in_ok-reply.ensures.reply (λ line left. c.in_ok-count_reply.ensures.counted line (c.in_ok-reply.ensures.mark line left))

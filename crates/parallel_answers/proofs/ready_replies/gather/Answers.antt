use Rattle.std.proofs.Common.{◌≡◌, ◌∙◌, ◌++◌, ap, rules, subst, sym}
use Rattle.parallel_answers.specs.inside.OpenReplies.{Gains, KnownFrom, rules_from}
use Rattle.parallel_answers.proofs.Gaining.{gains_none, gains_then}
use Rattle.parallel_answers.proofs.ready_replies.gather.Goals as goal

pub loop-init : goal.loop-init
loop-init g c =
    let lines = c.args.lines.now in
    let own = rules_from (g.T.LineTask.replies lines.by.now) (g.T.LineTask.waits lines.by.now) (g.T.LineTask.marks lines.by.now) lines.from in
    let knows = KnownFrom (g.T.LineTask.knows lines.by.now) lines.from in
    subst (Gains own knows c.args.replies.now c.args.replies.now c.args.tally.now c.args.tally.now) (sym c.new-gathered.ensures)
    (gains_none own knows c.args.replies.now c.args.tally.now)

pub loop-preserved : goal.loop-preserved
loop-preserved g c =
    let lines = c.args.lines.now in
    let own = rules_from (g.T.LineTask.replies lines.by.now) (g.T.LineTask.waits lines.by.now) (g.T.LineTask.marks lines.by.now) lines.from in
    let knows = KnownFrom (g.T.LineTask.knows lines.by.now) lines.from in
    let first : Gains own knows c.loop.replies c.take_first.new.replies c.loop.tally c.take_first.new.tally c.in-Some.reply.text.items =
    search rules in
    let text : c.add.new.self.text.items ≡ c.loop.gathered.text.items ++ c.in-Some.reply.text.items =
    c.in_ok-add.ensures ∙ ap (λ l. c.loop.gathered.text.items ++ l) c.as_slice.ensures.value in
    subst (Gains own knows c.args.replies.now c.take_first.new.replies c.args.tally.now c.take_first.new.tally) (sym text)
    (gains_then own knows c.args.replies.now c.loop.replies c.take_first.new.replies c.args.tally.now c.loop.tally c.take_first.new.tally
    c.loop.gathered.text.items c.in-Some.reply.text.items c.loop.invariant first)

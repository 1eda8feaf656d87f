use Rattle.parallel_answers.specs.inside.OpenReplies.{Gains, KnownFrom, rules_from}
use Rattle.parallel_answers.proofs.ready_replies.gather.Given as goal

abbrev pub invariant-loop : goal.invariant-loop
invariant-loop g l =
    Gains (rules_from (g.T.LineTask.replies l.fn.lines.by.now) (g.T.LineTask.waits l.fn.lines.by.now) (g.T.LineTask.marks l.fn.lines.by.now)
    l.fn.lines.from) (KnownFrom (g.T.LineTask.knows l.fn.lines.by.now) l.fn.lines.from) l.initial.replies l.replies l.initial.tally l.tally
    l.gathered.text.items

use Rattle.std.proofs.Common.{subst}
use Rattle.parallel_answers.proofs.Counting.{counted_from}
use Rattle.parallel_answers.proofs.open_replies.count_reply.Goals as goal

pub returns-in_ok-count-clause-counted : goal.returns-in_ok-count-clause-counted
returns-in_ok-count-clause-counted g c line is =
    let lines = c.args.lines.now in
    counted_from (g.T.LineTask.marks lines.by.now) (g.T.LineTask.knows lines.by.now) lines.from c.args.number line c.args.mark.now
    c.args.tally.now c.count.new.tally (g.T.LineTask.unmarked lines.by.now)
    (λ before l marked. c.in_ok-count.ensures before l (subst (λ m. ∥ g.T.LineTask.marks lines.by.now l m ∥₁) c.in-Some.is marked)) is

pub returns-in_default-clause-counted : goal.returns-in_default-clause-counted
returns-in_default-clause-counted g c line is =
    let lines = c.args.lines.now in
    counted_from (g.T.LineTask.marks lines.by.now) (g.T.LineTask.knows lines.by.now) lines.from c.args.number line c.args.mark.now
    c.args.tally.now c.args.tally.now (g.T.LineTask.unmarked lines.by.now)
    (λ before l marked. g.T.LineTask.passes lines.by.now c.args.tally.now before l
    (subst (λ m. ∥ g.T.LineTask.marks lines.by.now l m ∥₁) c.in_default.is marked)) is

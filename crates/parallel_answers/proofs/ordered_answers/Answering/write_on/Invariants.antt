use Rattle.std.proofs.Common.{List, ℕ}
use Rattle.std.specs.Io.KnownBytes.{Appends}
use Rattle.parallel_answers.specs.inside.OpenReplies.{Gains, KnownFrom, rules_from}
use Rattle.parallel_answers.proofs.ordered_answers.Answering.write_on.Given as goal

abbrev pub invariant-loop : goal.invariant-loop
invariant-loop g l = (text : List ℕ) × Gains (rules_from (g.T.LineTask.replies l.fn.self.lines.now.by.now)
    (g.T.LineTask.waits l.fn.self.lines.now.by.now) (g.T.LineTask.marks l.fn.self.lines.now.by.now) l.fn.self.lines.now.from)
    (KnownFrom (g.T.LineTask.knows l.fn.self.lines.now.by.now) l.fn.self.lines.now.from) l.initial.replies l.replies l.initial.tally l.tally text
    × Appends (g.O.Write.contents l.initial.out) (g.O.Write.contents l.out) text

use Rattle.std.proofs.Common.{◌≡◌, ◌+◌, List, ℕ, length}
use Rattle.text_lines.specs.TakenLines.{HasTaken, are_broken, left_in}
use Rattle.parallel_answers.specs.inside.OpenReplies.{KnownFrom, rules_from}
use Rattle.parallel_answers.proofs.Ordering.{Between}
use Rattle.parallel_answers.proofs.ordered_answers.answer_each.Given as goal

-- the replies to the first of the lines that were taken are written and counted, and those to the others are open
abbrev pub invariant-loop-number : goal.invariant-loop-number
invariant-loop-number g l = (these : List (List ℕ)) × record {
  taken : HasTaken (g.I.Input.left l.fn.input) (left_in g.I.Input.left l.lines) these;
  number : length these + 1 ≡ l.number;
  so_far : Between (rules_from (g.T.LineTask.replies l.fn.answering.lines.now.by.now) (g.T.LineTask.waits l.fn.answering.lines.now.by.now)
      (g.T.LineTask.marks l.fn.answering.lines.now.by.now) l.fn.answering.lines.now.from)
      (KnownFrom (g.T.LineTask.knows l.fn.answering.lines.now.by.now) l.fn.answering.lines.now.from) these l.replies l.initial.tally l.tally
      (g.O.Write.contents l.initial.out) (g.O.Write.contents l.out);
  steady : are_broken g.I.Input.breaks l.lines → g.I.Input.breaks l.fn.input;
}

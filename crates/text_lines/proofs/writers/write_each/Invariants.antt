use Rattle.std.proofs.Common.{◌≡◌, ◌+◌, ◌-◌, ◌<◌, ◌≤◌, ℕ, List, [], length, map}
use Rattle.std.specs.Io.KnownBytes.{Appends, Consumes}
use Rattle.text_lines.specs.Lines.{without_cr}
use Rattle.text_lines.specs.Replies.{IsReplyFrom, behind}
use Rattle.text_lines.specs.inside.InputLines.{left_of}
use Rattle.text_lines.specs.inside.LinesFrom.{FollowsFrom, KnowsFrom, RepliesFrom}
use Rattle.text_lines.proofs.LineReplies.{Opens}
use Rattle.text_lines.proofs.writers.write_each.Given as goal

-- what was taken so far are whole lines, and the replies to them are written
abbrev pub invariant-loop-number : goal.invariant-loop-number
invariant-loop-number g l = (seen : List ℕ) × (lines : List (List ℕ)) × (text : List ℕ) × record {
  taken : Consumes (g.I.Input.left l.fn.input) (left_of g.I.Input.left l.rest) seen;
  opens : Opens seen lines;
  replies : IsReplyFrom (RepliesFrom (g.W.LineWriter.replies l.lines.by.now) l.lines.from) 1 lines text l.refused;
  marks : IsReplyFrom (RepliesFrom (g.W.LineWriter.marks l.lines.by.now) l.lines.from) 1 lines text (g.W.LineWriter.tally l.memory - g.W.LineWriter.tally l.initial.memory);
  follows : KnowsFrom (g.W.LineWriter.knows l.lines.by.now) l.lines.from l.initial.memory []
      → IsReplyFrom (behind (FollowsFrom (g.W.LineWriter.follows l.lines.by.now) l.lines.from) (map without_cr lines)) 1 lines text l.refused
      × KnowsFrom (g.W.LineWriter.knows l.lines.by.now) l.lines.from l.memory (map without_cr lines);
  grows : g.W.LineWriter.tally l.initial.memory ≤ g.W.LineWriter.tally l.memory;
  number : length lines + 1 ≡ l.number;
  appends : Appends (g.O.Write.contents l.initial.out) (g.O.Write.contents l.out) text;
  few : l.refused < l.number;
  steady : g.I.Input.breaks l.rest.input → g.I.Input.breaks l.fn.input;
  room : g.W.LineWriter.room l.memory ≡ g.W.LineWriter.room l.initial.memory;
}

use Rattle.std.proofs.Common.{◌≡◌, ◌≤◌, List, ℕ, map}
use Rattle.text_lines.specs.TakenLines.{HasTaken, are_broken, left_in}
use Rattle.mail_lines.specs.Mails.{text_in}
use Rattle.mail_lines.specs.inside.MailReplies.{AreWritten, rules_from}
use Rattle.mail_lines.specs.inside.OpenMails.{IsBehind, reading_of, with_crs}
use Rattle.mail_lines.proofs.mail_replies.write_mails.Given as goal

-- the input reads as these lines and what follows what was taken of it, and the replies to them are written
abbrev pub invariant-loop-number : goal.invariant-loop-number
invariant-loop-number g l = (lines : List (List ℕ)) × (now : List (List ℕ)) × record {
  taken : HasTaken (g.I.Input.left l.fn.input) (left_in g.I.Input.left l.rest) lines;
  behind : IsBehind l.mail l.is_headed l.number (reading_of (map (text_in l.letters) lines)) now;
  written : AreWritten (rules_from (g.H.LineHandler.replies l.lines.by.now) (g.H.LineHandler.knows l.lines.by.now)
      (g.H.LineHandler.follows l.lines.by.now) l.lines.from) l.initial.memory l.memory (g.O.Write.contents l.initial.out)
      (g.O.Write.contents l.out) (with_crs now) l.refused;
  steady : are_broken g.I.Input.breaks l.rest → g.I.Input.breaks l.fn.input;
  grows : g.H.LineHandler.tally l.initial.memory ≤ g.H.LineHandler.tally l.memory;
  room : g.H.LineHandler.room l.memory ≡ g.H.LineHandler.room l.initial.memory;
}

use Rattle.std.proofs.Common.{[], refl, inl}
use Rattle.std.proofs.lemmas.Result.{err_from_is_err_and}
use Rattle.std.proofs.KnownBytes.{Appends-nil, Keeps-refl}
use Rattle.text_lines.specs.inside.LinesFrom.{RepliesFrom}
use Rattle.text_lines.specs.Lines.{without_cr}
use Rattle.text_lines.proofs.PassedLines.{answered_on, follows_on, knows_on, knows_passed, passed_over}
use Rattle.text_lines.proofs.WrittenReplies.{broken_part, never_unreadable, none_more, read_is_unreadable, read_never_broken, silent_keeps}
use Rattle.text_lines.proofs.writers.answer_next.Goals as goal

pub returns-in-Ok-clause-ok : goal.returns-in-Ok-clause-ok
returns-in-Ok-clause-ok g c =
    let (line, is, takes) = c.in_ok-taken.ensures.ok in
    let (here, (may, marks, knows), appends) = c.in-Ok.ensures.reply in
    let from = c.args.lines.now.from in (
      line,
      here,
      answered_on (g.W.LineWriter.replies c.args.lines.now.by.now) from c.args.number (without_cr line) here _ c.if-number-lines.false (may line is),
      answered_on (g.W.LineWriter.marks c.args.lines.now.by.now) from c.args.number (without_cr line) here _ c.if-number-lines.false (marks line is),
      knows_on (g.W.LineWriter.knows c.args.lines.now.by.now) (g.W.LineWriter.follows c.args.lines.now.by.now) from c.args.number
          (without_cr line) _ _ here _ c.if-number-lines.false (knows line is),
      takes,
      appends,
    )

pub returns-then-number-lines-clause-ok : goal.returns-then-number-lines-clause-ok
returns-then-number-lines-clause-ok g c =
    let (line, is, takes) = c.in_ok-taken.ensures.ok in
    let from = c.args.lines.now.from in
    let early = c.if-number-lines.true in (
      line,
      [],
      passed_over (g.W.LineWriter.replies c.args.lines.now.by.now) from c.args.number (without_cr line) early,
      none_more (λ n. RepliesFrom (g.W.LineWriter.marks c.args.lines.now.by.now) from c.args.number (without_cr line) [] n) (g.W.LineWriter.tally c.args.memory.now)
          (passed_over (g.W.LineWriter.marks c.args.lines.now.by.now) from c.args.number (without_cr line) early),
      knows_passed (g.W.LineWriter.knows c.args.lines.now.by.now) (g.W.LineWriter.follows c.args.lines.now.by.now) from c.args.number
          (without_cr line) c.args.memory.now early
          (λ before known. g.met.W.LineWriter.passes c.args.lines.now.by.now _ before [] (inl refl) known),
      takes,
      Appends-nil (g.O.Write.contents c.args.out.now),
    )

pub returns-clause-unanswered : goal.returns-clause-unanswered
returns-clause-unanswered g c = silent_keeps _ _ _ c.in-Err.stop c.in-Err.ensures.err

pub returns-clause-cut : goal.returns-clause-cut
returns-clause-cut g c = λ broken.
    let (line, is, takes) = c.in_ok-taken.ensures.ok in
    let (here, count, may, part) = broken_part _ _ _ c.in-Err.stop c.in-Err.ensures.err broken in
    let (reply, follows) = may line is in
    let from = c.args.lines.now.from in (
      c.in_ok-taken.taken.is_last,
      line,
      here,
      count,
      (
        answered_on (g.W.LineWriter.replies c.args.lines.now.by.now) from c.args.number (without_cr line) here count c.if-number-lines.false reply,
        follows_on (g.W.LineWriter.knows c.args.lines.now.by.now) (g.W.LineWriter.follows c.args.lines.now.by.now) from c.args.number
            (without_cr line) _ here count c.if-number-lines.false follows,
      ),
      takes,
      part,
    )

pub returns-clause-unreadable : goal.returns-clause-unreadable
returns-clause-unreadable g c = λ is. absurd (never_unreadable _ _ _ c.in-Err.stop c.in-Err.ensures.err is)

pub returns-in_err-taken-clause-unanswered : goal.returns-in_err-taken-clause-unanswered
returns-in_err-taken-clause-unanswered g c =
    let (other, is, same) = err_from_is_err_and c.from_residual.result c.from_residual.ensures.1 in
    rw is (λ silent. Keeps-refl (g.O.Write.contents c.args.out.now))

pub returns-in_err-taken-clause-cut : goal.returns-in_err-taken-clause-cut
returns-in_err-taken-clause-cut g c =
    let (other, is, same) = err_from_is_err_and c.from_residual.result c.from_residual.ensures.1 in
    rw (is, same) (λ broken. absurd (read_never_broken c.in_err-taken.field-0.0 broken))

pub returns-in_err-taken-clause-unreadable : goal.returns-in_err-taken-clause-unreadable
returns-in_err-taken-clause-unreadable g c =
    let (other, is, same) = err_from_is_err_and c.from_residual.result c.from_residual.ensures.1 in
    rw (is, same) (λ unreadable. c.in_err-taken.ensures.unreadable (read_is_unreadable c.in_err-taken.field-0.0 unreadable))

pub returns-in_err-taken-clause-steady : goal.returns-in_err-taken-clause-steady
returns-in_err-taken-clause-steady g c = c.take_line.ensures.steady

pub returns-in_err-taken-clause-room : goal.returns-in_err-taken-clause-room
returns-in_err-taken-clause-room g c = refl

pub returns-in-Ok-clause-few : goal.returns-in-Ok-clause-few
returns-in-Ok-clause-few g c = c.in-Ok.ensures.few

pub returns-in-Ok-clause-grows : goal.returns-in-Ok-clause-grows
returns-in-Ok-clause-grows g c = c.in-Ok.ensures.grows

pub returns-in-Ok-clause-steady : goal.returns-in-Ok-clause-steady
returns-in-Ok-clause-steady g c = c.take_line.ensures.steady

pub returns-in-Ok-clause-room : goal.returns-in-Ok-clause-room
returns-in-Ok-clause-room g c = c.answer_kept.ensures.room

pub returns-clause-steady : goal.returns-clause-steady
returns-clause-steady g c = c.take_line.ensures.steady

pub returns-clause-room : goal.returns-clause-room
returns-clause-room g c = c.answer_kept.ensures.room

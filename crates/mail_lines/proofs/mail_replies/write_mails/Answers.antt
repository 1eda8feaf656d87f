use Rattle.std.proofs.Common.{append_assoc, ◌++◌, ◌∷◌, ◌+◌, [], arith, map, refl, subst, ◌∙◌}
use Rattle.std.proofs.lemmas.Result.{err_from_is_err_and}
use Rattle.text_lines.specs.Lines.{without_cr}
use Rattle.mail_lines.specs.Mails.{text_in}
use Rattle.mail_lines.specs.inside.MailReplies.{AreWritten, BreakIn, rules_from}
use Rattle.mail_lines.specs.inside.OpenMails.{Reading, behind_line, reading_of}
use Rattle.mail_lines.proofs.JoinedLines.{behind_same, few_lines, first_same, none_taken, reads_first, reads_taken}
use Rattle.mail_lines.proofs.MailedBytes.{all_bytes, begins_taken, breaks_all, read_of_all, taken_line}
use Rattle.mail_lines.proofs.MailTexts.{text_of_taken}
use Rattle.mail_lines.proofs.WrittenMails.{breaks_here, breaks_silent, few_written, none_written, silent_fault}
use Rattle.mail_lines.proofs.mail_replies.write_mails.Goals as goal

pub loop-number-init : goal.loop-number-init
loop-number-init g c = (
  [],
  [],
  record {
    taken = c.new-rest.ensures.none;
    behind = none_taken;
    written = none_written (rules_from (g.H.LineHandler.replies c.args.lines.now.by.now) (g.H.LineHandler.knows c.args.lines.now.by.now)
        (g.H.LineHandler.follows c.args.lines.now.by.now) c.args.lines.now.from) c.args.memory.now (g.O.Write.contents c.args.out.now);
    steady = c.new-rest.ensures.steady;
    grows = omega arith;
    room = refl;
  },
)

pub returns-in_err-taken-clause-err : goal.returns-in_err-taken-clause-err
returns-in_err-taken-clause-err g c =
    let (taken, now, so_far) = c.loop-number.invariant in
    let rules = rules_from (g.H.LineHandler.replies c.args.lines.now.by.now) (g.H.LineHandler.knows c.args.lines.now.by.now)
    (g.H.LineHandler.follows c.args.lines.now.by.now) c.args.lines.now.from in
    let first = c.args.memory.now in
    let (bytes, more, may, is) = begins_taken (g.I.Input.left c.args.input) _ taken so_far.taken in
    let (other, is_err, same) = err_from_is_err_and c.from_residual.result c.from_residual.ensures.1 in
    rw (is_err, same) (
      bytes,
      may,
      breaks_all rules first c.args.letters.now _ _ _ bytes taken more now is
          (reads_first c.loop-number.mail c.loop-number.is_headed c.loop-number.number (reading_of (map (text_in c.args.letters.now) taken)) now so_far.behind)
          (breaks_silent rules first _ _ _ _ _ _ (silent_fault c.in_err-taken.field-0.0) so_far.written),
    )

pub returns-in_err-line-clause-err : goal.returns-in_err-line-clause-err
returns-in_err-line-clause-err g c =
    let (taken, now, so_far) = c.loop-number.invariant in
    let rules = rules_from (g.H.LineHandler.replies c.args.lines.now.by.now) (g.H.LineHandler.knows c.args.lines.now.by.now)
    (g.H.LineHandler.follows c.args.lines.now.by.now) c.args.lines.now.from in
    let first = c.args.memory.now in
    let (raw, said, (bytes, more, may, is)) = taken_line (g.I.Input.left c.args.input) _ _ c.in_ok-taken.taken.line c.in_ok-taken.taken.is_last taken
    so_far.taken c.in_ok-taken.ensures.more c.in_ok-taken.ensures.last in
    let (other, is_err, same) = err_from_is_err_and c.from_residual-in_err-line.result c.from_residual-in_err-line.ensures.1 in
    rw (is_err, same) (
      bytes,
      may,
      breaks_all rules first c.args.letters.now _ _ _ bytes taken (raw ∷ more) now (is ∙ append_assoc taken (raw ∷ []) more)
          (reads_first c.loop-number.mail c.loop-number.is_headed c.loop-number.number (reading_of (map (text_in c.args.letters.now) taken)) now so_far.behind)
          (breaks_here rules first _ _ _ _ _ _ so_far.written refl),
    )

pub returns-in_err-next-clause-err : goal.returns-in_err-next-clause-err
returns-in_err-next-clause-err g c =
    let (taken, now, so_far) = c.loop-number.invariant in
    let rules = rules_from (g.H.LineHandler.replies c.args.lines.now.by.now) (g.H.LineHandler.knows c.args.lines.now.by.now)
    (g.H.LineHandler.follows c.args.lines.now.by.now) c.args.lines.now.from in
    let first = c.args.memory.now in
    let start = g.O.Write.contents c.args.out.now in
    let known = g.I.Input.left c.args.input in
    let (raw, said, (bytes, more, may, is)) = taken_line known _ _ c.in_ok-taken.taken.line c.in_ok-taken.taken.is_last taken so_far.taken
    c.in_ok-taken.ensures.more c.in_ok-taken.ensures.last in
    let reading : Reading = reading_of (map (text_in c.args.letters.now) taken) in
    let (after, reads, breaks) = c.in_err-next.ensures.err (text_in c.args.letters.now raw) (c.in_ok-line.ensures (without_cr raw) said) reading now first start _ so_far.behind so_far.written in
    let (other, is_err, same) = err_from_is_err_and c.from_residual-in_err-next.result c.from_residual-in_err-next.ensures.1 in
    rw (is_err, same) (
      bytes,
      may,
      breaks_all rules first c.args.letters.now _ _ _ bytes (taken ++ raw ∷ []) more after is
          (first_same (behind_line (text_in c.args.letters.now raw) reading) (reading_of (map (text_in c.args.letters.now) (taken ++ raw ∷ []))) after (reads_taken (text_in c.args.letters.now) taken raw) reads)
          breaks,
    )

pub returns-in_err-answer_last-clause-err : goal.returns-in_err-answer_last-clause-err
returns-in_err-answer_last-clause-err g c =
    let (taken, now, so_far) = c.loop-number.invariant in
    let rules = rules_from (g.H.LineHandler.replies c.args.lines.now.by.now) (g.H.LineHandler.knows c.args.lines.now.by.now)
    (g.H.LineHandler.follows c.args.lines.now.by.now) c.args.lines.now.from in
    let first = c.args.memory.now in
    let start = g.O.Write.contents c.args.out.now in
    let known = g.I.Input.left c.args.input in
    let (raw, line, all) = c.in_ok-taken.ensures.last c.if-taken.true in
    let (bytes, may, is) = all_bytes known (taken ++ raw ∷ []) (all known taken so_far.taken) in
    let reading : Reading = reading_of (map (text_in c.args.letters.now) taken) in
    let (after, behind, written) = c.in_ok-next.ensures.ok (text_in c.args.letters.now raw) (c.in_ok-line.ensures (without_cr raw) (text_of_taken c.in_ok-taken.taken.line raw line)) reading now first start _
    so_far.behind so_far.written in
    let (other, is_err, same) = err_from_is_err_and c.from_residual-in_err-answer_last.result c.from_residual-in_err-answer_last.ensures.1 in
    rw (is_err, same) (
      bytes,
      may,
      subst (λ ls. BreakIn rules first c.in_err-answer_last.field-0.0 start (g.O.Write.contents c.answer_last.new.out) ls) (read_of_all c.args.letters.now bytes taken raw is)
          (c.in_err-answer_last.ensures.err c.in_ok-next.next.is_headed (c.loop-number.number + 1) (behind_line (text_in c.args.letters.now raw) reading) after first start _ behind written),
    )

pub returns-then-taken-clause-ok : goal.returns-then-taken-clause-ok
returns-then-taken-clause-ok g c =
    let (taken, now, so_far) = c.loop-number.invariant in
    let rules = rules_from (g.H.LineHandler.replies c.args.lines.now.by.now) (g.H.LineHandler.knows c.args.lines.now.by.now)
    (g.H.LineHandler.follows c.args.lines.now.by.now) c.args.lines.now.from in
    let first = c.args.memory.now in
    let start = g.O.Write.contents c.args.out.now in
    let known = g.I.Input.left c.args.input in
    let (raw, line, all) = c.in_ok-taken.ensures.last c.if-taken.true in
    let (bytes, may, is) = all_bytes known (taken ++ raw ∷ []) (all known taken so_far.taken) in
    let reading : Reading = reading_of (map (text_in c.args.letters.now) taken) in
    let (after, behind, written) = c.in_ok-next.ensures.ok (text_in c.args.letters.now raw) (c.in_ok-line.ensures (without_cr raw) (text_of_taken c.in_ok-taken.taken.line raw line)) reading now first start _
    so_far.behind so_far.written in (
      bytes,
      may,
      subst (λ ls. AreWritten rules first c.answer_last.new.memory start (g.O.Write.contents c.answer_last.new.out) ls
          ((c.loop-number.refused + c.in_ok-next.next.refused) + c.in_ok-answer_last.field-0)) (read_of_all c.args.letters.now bytes taken raw is)
          (c.in_ok-answer_last.ensures.ok c.in_ok-next.next.is_headed (c.loop-number.number + 1) (behind_line (text_in c.args.letters.now raw) reading) after first start _ behind written),
    )

pub loop-number-preserved : goal.loop-number-preserved
loop-number-preserved g c =
    let (taken, now, so_far) = c.loop-number.invariant in
    let first = c.args.memory.now in
    let start = g.O.Write.contents c.args.out.now in
    let known = g.I.Input.left c.args.input in
    let (raw, line, onward) = c.in_ok-taken.ensures.more c.if-taken.false in
    let reading : Reading = reading_of (map (text_in c.args.letters.now) taken) in
    let (after, behind, written) = c.in_ok-next.ensures.ok (text_in c.args.letters.now raw) (c.in_ok-line.ensures (without_cr raw) (text_of_taken c.in_ok-taken.taken.line raw line)) reading now first start _
    so_far.behind so_far.written in (
      taken ++ raw ∷ [],
      after,
      record {
        taken = onward known taken so_far.taken;
        behind = behind_same c.in_ok-next.next.mail c.in_ok-next.next.is_headed (c.loop-number.number + 1) (behind_line (text_in c.args.letters.now raw) reading)
            (reading_of (map (text_in c.args.letters.now) (taken ++ raw ∷ []))) after (reads_taken (text_in c.args.letters.now) taken raw) behind;
        written = written;
        steady = λ may. so_far.steady (c.take.ensures.steady may);
        grows = omega (arith, so_far.grows, c.in_ok-next.ensures.grows);
        room = c.take_next.ensures.room ∙ so_far.room;
      },
    )

pub returns-clause-err : goal.returns-clause-err
returns-clause-err g c =
    let (taken, now, so_far) = c.loop-number.invariant in
    let rules = rules_from (g.H.LineHandler.replies c.args.lines.now.by.now) (g.H.LineHandler.knows c.args.lines.now.by.now)
    (g.H.LineHandler.follows c.args.lines.now.by.now) c.args.lines.now.from in
    let first = c.args.memory.now in
    let (bytes, more, may, is) = begins_taken (g.I.Input.left c.args.input) _ taken so_far.taken in (
      bytes,
      may,
      breaks_all rules first c.args.letters.now _ _ _ bytes taken more now is
          (reads_first c.loop-number.mail c.loop-number.is_headed c.loop-number.number (reading_of (map (text_in c.args.letters.now) taken)) now so_far.behind)
          (breaks_here rules first _ _ _ _ _ _ so_far.written refl),
    )

pub overflow_add-result : goal.overflow_add-result
overflow_add-result g c =
    let (taken, now, so_far) = c.loop-number.invariant in
    let first = c.args.memory.now in
    let start = g.O.Write.contents c.args.out.now in
    let known = g.I.Input.left c.args.input in
    let (raw, line, all) = c.in_ok-taken.ensures.last c.if-taken.true in
    let reading : Reading = reading_of (map (text_in c.args.letters.now) taken) in
    let (after, behind, written) = c.in_ok-next.ensures.ok (text_in c.args.letters.now raw) (c.in_ok-line.ensures (without_cr raw) (text_of_taken c.in_ok-taken.taken.line raw line)) reading now first start _
    so_far.behind so_far.written in
    omega (
      arith,
      few_written _ first _ _ _ after _ written,
      few_lines c.in_ok-next.next.mail c.in_ok-next.next.is_headed (c.loop-number.number + 1) (behind_line (text_in c.args.letters.now raw) reading) after behind,
      c.in_ok-answer_last.ensures.few,
      c.loop-number-test.true,
    )

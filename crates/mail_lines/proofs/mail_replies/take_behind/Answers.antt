use Rattle.std.proofs.Common.{◌++◌, ◌∷◌, [], arith, inl, refl}
use Rattle.std.proofs.lemmas.Result.{err_from_is_err_and}
use Rattle.mail_lines.proofs.JoinedLines.{behind_same, first_same, lines_with, mail_first, mail_shut, shut_here}
use Rattle.mail_lines.proofs.WrittenMails.{breaks_next, empty_written, skips_from, written_as, written_next}
use Rattle.mail_lines.proofs.mail_replies.take_behind.Goals as goal

pub returns-in_err-refused-clause-err : goal.returns-in_err-refused-clause-err
returns-in_err-refused-clause-err g c =
    let (other, is, same) = err_from_is_err_and c.from_residual.result c.from_residual.ensures.1 in
    rw (is, same)
    (λ text said reading lines first start refused o w. (
      lines ++ o.text ∷ [],
      mail_first c.args.mail.now c.args.number reading lines text (c.requires.ends text said) o,
      breaks_next _ first _ _ start _ _ lines o.text refused c.args.mail.now.number w o.first (c.in_err-refused.ensures.err o.text o.is),
    ))

pub returns-in_err-next-clause-err : goal.returns-in_err-next-clause-err
returns-in_err-next-clause-err g c =
    let (other, is, same) = err_from_is_err_and c.from_residual-in_err-next.result c.from_residual-in_err-next.ensures.1 in
    let by = c.args.lines.now.by.now in
    let skips = skips_from (g.H.LineHandler.replies by) (g.H.LineHandler.knows by) (g.H.LineHandler.follows by) c.args.lines.now.from
    (λ number. g.met.H.LineHandler.skips by number [] refl) (λ before number. g.met.H.LineHandler.skips_behind by before number [] refl)
    (λ memory before known. g.met.H.LineHandler.passes by memory before [] (inl refl) known) in
    rw (is, same)
    (λ text said reading lines first start refused o w.
    let one = written_next _ first _ _ start _ _ lines o.text refused _ c.args.mail.now.number c.in_ok-refused.ensures.few w o.first
    (c.in_ok-refused.ensures.ok o.text o.is) in
    let all = empty_written _ first _ start _ (lines ++ o.text ∷ []) _ o.empty skips one in
    let (now, reads, breaks) = c.in_err-next.ensures.err text said _ (lines_with lines o.text o.empty) first start _
    (shut_here c.args.mail.now c.args.number reading lines o) all in (
      now,
      first_same _ _ now (mail_shut c.args.mail.now c.args.number reading lines text (c.requires.ends text said) o) reads,
      breaks,
    ))

pub returns-clause-ok : goal.returns-clause-ok
returns-clause-ok g c =
    let by = c.args.lines.now.by.now in
    let skips = skips_from (g.H.LineHandler.replies by) (g.H.LineHandler.knows by) (g.H.LineHandler.follows by) c.args.lines.now.from
    (λ number. g.met.H.LineHandler.skips by number [] refl) (λ before number. g.met.H.LineHandler.skips_behind by before number [] refl)
    (λ memory before known. g.met.H.LineHandler.passes by memory before [] (inl refl) known) in
    λ text said reading lines first start refused o w.
    let one = written_next _ first _ _ start _ _ lines o.text refused _ c.args.mail.now.number c.in_ok-refused.ensures.few w o.first
    (c.in_ok-refused.ensures.ok o.text o.is) in
    let all = empty_written _ first _ start _ (lines ++ o.text ∷ []) _ o.empty skips one in
    let (now, behind, written) = c.in_ok-next.ensures.ok text said _ (lines_with lines o.text o.empty) first start _
    (shut_here c.args.mail.now c.args.number reading lines o) all in (
      now,
      behind_same _ _ _ _ _ now (mail_shut c.args.mail.now c.args.number reading lines text (c.requires.ends text said) o) behind,
      written_as _ first _ start _ _ _ _ (omega arith) written,
    )

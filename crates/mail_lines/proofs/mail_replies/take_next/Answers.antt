use Rattle.std.proofs.Common.{◌++◌, ◌∷◌, arith, codes, refl, subst}
use Rattle.std.proofs.lemmas.Result.{err_from_is_err_and}
use Rattle.mail_lines.specs.inside.OpenMails.{IsBehind, IsTextOf}
use Rattle.mail_lines.proofs.JoinedLines.{mail_on, reads_first}
use Rattle.mail_lines.proofs.WrittenMails.{breaks_here, written_as}
use Rattle.mail_lines.proofs.mail_replies.take_next.Goals as goal

pub returns-in_default-clause-ok : goal.returns-in_default-clause-ok
returns-in_default-clause-ok g c = rw (c.in_default.is) c.take_first.ensures.ok

pub returns-in_default-text_taken_on-clause-ok : goal.returns-in_default-text_taken_on-clause-ok
returns-in_default-text_taken_on-clause-ok g c = rw (c.in-Some.is) c.take_behind.ensures.ok

pub returns-in_default-text_taken_on-clause-err : goal.returns-in_default-text_taken_on-clause-err
returns-in_default-text_taken_on-clause-err g c = rw (c.in-Some.is) c.take_behind.ensures.err

pub returns-in_err-joined-clause-err : goal.returns-in_err-joined-clause-err
returns-in_err-joined-clause-err g c =
    let (other, is, same) = err_from_is_err_and c.from_residual.result c.from_residual.ensures.1 in
    rw (is)
    (λ text said reading lines first start refused was w. (
      lines,
      λ rest. reads_first c.args.mail c.args.is_headed c.args.number reading lines was (text ∷ rest),
      breaks_here _ first _ other start _ _ refused w same,
    ))

pub returns-clause-ok : goal.returns-clause-ok
returns-clause-ok g c = λ text said reading lines first start refused was w.
    let o = subst (λ m. IsBehind m c.args.is_headed c.args.number reading lines) c.in-Some.is was in
    let (same, on) = c.in-Some-text_taken_on.ensures.some text said in (
      lines,
      mail_on c.in-Some.mail _ c.args.number reading lines text on refl o
          (subst (λ t. IsTextOf c.in_ok-joined.field-0 (o.text ++ (codes " ; " ++ t))) same (c.in_ok-joined.ensures o.text o.filled o.is)),
      written_as _ first _ start _ _ refused _ (omega arith) w,
    )

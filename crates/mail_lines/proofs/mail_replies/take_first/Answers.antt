use Rattle.std.proofs.Common.{◌≡◌, ◌++◌, ◌+◌, ◌∷◌, [], None, ◌&&◌, arith, not, subst, sym, true, false, ◌∙◌}
use Rattle.std.proofs.lemmas.Result.{err_from_is_err_and}
use Rattle.mail_lines.specs.Labels.{bared}
use Rattle.mail_lines.specs.Mails.{begins_mail, is_headed_behind}
use Rattle.mail_lines.proofs.JoinedLines.{mail_next, plain_next, reads_first}
use Rattle.mail_lines.proofs.MailTexts.{mail_filled}
use Rattle.mail_lines.proofs.WrittenMails.{breaks_here, breaks_next, written_as, written_next}
use Rattle.mail_lines.specs.inside.OpenMails.{IsShutBehind, behind_line}
use Rattle.mail_lines.proofs.mail_replies.take_first.Goals as goal

pub returns-in_err-text-clause-err : goal.returns-in_err-text-clause-err
returns-in_err-text-clause-err g c =
    let (other, is, same) = err_from_is_err_and c.from_residual.result c.from_residual.ensures.1 in
    rw (is)
    (λ text said reading lines first start refused shut w. (
      lines,
      λ rest. reads_first None c.args.is_headed c.args.number reading lines shut (text ∷ rest),
      breaks_here _ first _ other start _ _ refused w same,
    ))

pub returns-then-begins-clause-ok : goal.returns-then-begins-clause-ok
returns-then-begins-clause-ok g c = λ text said reading lines first start refused shut w.
    let kept = c.in_ok-text.ensures text said in
    let begins : (not c.args.is_headed && begins_mail (bared text)) ≡ true = sym (c.begins.ensures (bared text) kept) ∙ c.if-begins.true in (
      lines,
      mail_next c.args.is_headed c.args.number reading lines text _ (mail_filled c.args.is_headed (bared text) begins) begins kept shut,
      written_as _ first _ start _ _ refused _ (omega arith) w,
    )

pub returns-in_err-answer_from-clause-err : goal.returns-in_err-answer_from-clause-err
returns-in_err-answer_from-clause-err g c =
    let (other, is, same) = err_from_is_err_and c.from_residual-in_err-answer_from.result c.from_residual-in_err-answer_from.ensures.1 in
    rw (is, same)
    (λ text said reading lines first start refused shut w.
    let kept = c.in_ok-text.ensures text said in
    let none : (not c.args.is_headed && begins_mail (bared text)) ≡ false = sym (c.begins.ensures (bared text) kept) ∙ c.if-begins.false in (
      lines ++ bared text ∷ [],
      reads_first None (is_headed_behind c.args.is_headed (bared text)) (c.args.number + 1) (behind_line text reading) (lines ++ bared text ∷ [])
          (plain_next c.args.is_headed c.args.number reading lines text none shut),
      breaks_next _ first _ _ start _ _ lines (bared text) refused c.args.number w shut.next (c.in_err-answer_from.ensures.err (bared text) kept),
    ))

pub returns-clause-ok : goal.returns-clause-ok
returns-clause-ok g c = λ text said reading lines first start refused shut w.
    let kept = c.in_ok-text.ensures text said in
    let none : (not c.args.is_headed && begins_mail (bared text)) ≡ false = sym (c.begins.ensures (bared text) kept) ∙ c.if-begins.false in (
      lines ++ bared text ∷ [],
      subst (λ headed. IsShutBehind headed (c.args.number + 1) (behind_line text reading) (lines ++ bared text ∷ []))
          (sym (c.heads.ensures (bared text) kept)) (plain_next c.args.is_headed c.args.number reading lines text none shut),
      written_next _ first _ _ start _ _ lines (bared text) refused _ c.args.number c.in_ok-answer_from.ensures.few w shut.next
          (c.in_ok-answer_from.ensures.ok (bared text) kept),
    )

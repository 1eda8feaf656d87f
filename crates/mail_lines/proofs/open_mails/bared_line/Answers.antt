use Rattle.std.proofs.Common.{subst, sym}
use Rattle.text_lines.specs.declared.taken_lines.TakenLine.TheVariants as taken
use Rattle.mail_lines.specs.inside.OpenMails.{IsTextOf}
use Rattle.mail_lines.proofs.MailTexts.{bared_blank, bared_long}
use Rattle.mail_lines.proofs.open_mails.bared_line.Goals as goal

pub returns-in-Blank : goal.returns-in-Blank
returns-in-Blank c said is =
    let blank : IsTextOf taken.Blank said = subst (λ l. IsTextOf l said) c.in-Blank.is is in
    subst (IsTextOf taken.Blank) (sym (bared_blank said blank)) blank

pub returns-in-Long : goal.returns-in-Long
returns-in-Long c said is =
    let long : IsTextOf taken.Long said = subst (λ l. IsTextOf l said) c.in-Long.is is in
    subst (IsTextOf taken.Long) (sym (bared_long said long.1)) long

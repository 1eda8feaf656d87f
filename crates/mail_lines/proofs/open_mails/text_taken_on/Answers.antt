use Rattle.std.proofs.Common.{subst}
use Rattle.text_lines.specs.declared.taken_lines.TakenLine.TheVariants as taken
use Rattle.mail_lines.specs.inside.OpenMails.{IsTextOf}
use Rattle.mail_lines.proofs.MailTexts.{blank_ends, long_ends}
use Rattle.mail_lines.proofs.open_mails.text_taken_on.Goals as goal

pub returns-in-Blank-clause-none : goal.returns-in-Blank-clause-none
returns-in-Blank-clause-none c said is =
    let blank : IsTextOf taken.Blank said = subst (λ l. IsTextOf l said) c.in-Blank.is is in blank_ends said blank

pub returns-in-Long-clause-none : goal.returns-in-Long-clause-none
returns-in-Long-clause-none c said is =
    let long : IsTextOf taken.Long said = subst (λ l. IsTextOf l said) c.in-Long.is is in long_ends said long.1

use Rattle.std.proofs.Common.{subst, sym}
use Rattle.text_lines.specs.declared.taken_lines.TakenLine.TheVariants as taken
use Rattle.mail_lines.specs.inside.OpenMails.{IsTextOf}
use Rattle.mail_lines.proofs.MailTexts.{blank_heads_none, long_heads_none}
use Rattle.mail_lines.proofs.open_mails.heads.Goals as goal

pub returns-in-Blank : goal.returns-in-Blank
returns-in-Blank c said is =
    let blank : IsTextOf taken.Blank said = subst (λ l. IsTextOf l said) c.in-Blank.is is in sym (blank_heads_none c.args.is_headed said blank)

pub returns-in-Long : goal.returns-in-Long
returns-in-Long c said is =
    let long : IsTextOf taken.Long said = subst (λ l. IsTextOf l said) c.in-Long.is is in sym (long_heads_none c.args.is_headed said long.1)

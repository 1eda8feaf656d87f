use Rattle.std.proofs.Common.{not, refl, subst}
use Rattle.std.proofs.Math.Bool.{and-false}
use Rattle.text_lines.specs.declared.taken_lines.TakenLine.TheVariants as taken
use Rattle.mail_lines.specs.inside.OpenMails.{IsTextOf}
use Rattle.mail_lines.proofs.MailTexts.{blank_begins_none, long_begins_none}
use Rattle.mail_lines.proofs.open_mails.begins.Goals as goal

pub returns-in-Blank : goal.returns-in-Blank
returns-in-Blank c said is =
    let blank : IsTextOf taken.Blank said = subst (λ l. IsTextOf l said) c.in-Blank.is is in
    rw (blank_begins_none said blank, and-false (not c.args.is_headed)) refl

pub returns-in-Long : goal.returns-in-Long
returns-in-Long c said is =
    let long : IsTextOf taken.Long said = subst (λ l. IsTextOf l said) c.in-Long.is is in
    rw (long_begins_none said long.1, and-false (not c.args.is_headed)) refl

use Rattle.std.proofs.Common.{subst, sym}
use Rattle.text_lines.specs.declared.taken_lines.TakenLine.TheVariants as taken
use Rattle.mail_lines.specs.inside.OpenMails.{IsTextOf}
use Rattle.mail_lines.proofs.LetteredLines.{blank_read, long_read}
use Rattle.mail_lines.proofs.open_mails.lettered_line.Goals as goal

pub returns-in-Blank : goal.returns-in-Blank
returns-in-Blank c said is =
    let blank : IsTextOf taken.Blank said = subst (λ l. IsTextOf l said) c.in-Blank.is is in
    subst (IsTextOf taken.Blank) (sym (blank_read c.args.letters.now said blank)) blank

pub returns-in-Long : goal.returns-in-Long
returns-in-Long c said is =
    let long : IsTextOf taken.Long said = subst (λ l. IsTextOf l said) c.in-Long.is is in
    subst (IsTextOf taken.Long) (sym (long_read c.args.letters.now said long.1)) long

use Rattle.std.proofs.Common.{arith, subst}
use Rattle.mail_lines.specs.inside.OpenMails.{IsTextOf}
use Rattle.mail_lines.proofs.MailTexts.{joined_long, joined_longer}
use Rattle.mail_lines.proofs.open_mails.joined.Goals as goal

pub returns-then-more-saturating_sub : goal.returns-then-more-saturating_sub
returns-then-more-saturating_sub c before filled is =
    joined_long c.in-Text.bytes.items before c.args.more.now (subst (λ l. IsTextOf l before) c.in-Text.is is) filled
    (omega (arith, c.if-more-saturating_sub.true, c.saturating_sub.ensures, c.len.ensures))

pub returns-in-Long : goal.returns-in-Long
returns-in-Long c before filled is = joined_longer before c.args.more.now (subst (λ l. IsTextOf l before) c.in-Long.is is)

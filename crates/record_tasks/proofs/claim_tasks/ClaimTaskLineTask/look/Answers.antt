use Rattle.std.proofs.Common.{IfSome, ap, subst}
use Rattle.std.specs.Prelude.{◌++◌, decimal}
use Rattle.mate_claims.specs.ClaimReplies.{IsTold}
use Rattle.record_tasks.proofs.Claimed.{reply_told}
use Rattle.record_tasks.proofs.Counted.{told_mark}
use Rattle.record_tasks.proofs.claim_tasks.ClaimTaskLineTask.look.Goals as goal

pub returns-clause-reply : goal.returns-clause-reply
returns-clause-reply c filled =
    let tells = subst (λ o. IfSome o (λ t. IsTold (c.rows.result.prefix.now ++ decimal c.args.number) c.rows.result.default c.args.line.now
    t.row.items t.verdict t.source)) c.in-Some.is c.in_ok-told.ensures.told in
    reply_told c.args.self.now.prefix.items c.rows.result.prefix.now c.args.self.now.default c.rows.result.default c.args.number
    c.args.line.now c.in-Some.told.row.items c.reply_of.result.text.items c.in-Some.told.verdict c.in-Some.told.source
    c.reply_of.result.refused c.rows.ensures.prefix c.rows.ensures.default (ap (λ v. v.items) c.reply_of.ensures.text)
    c.reply_of.ensures.refused filled tells

pub returns-clause-mark : goal.returns-clause-mark
returns-clause-mark c filled =
    let tells = subst (λ o. IfSome o (λ t. IsTold (c.rows.result.prefix.now ++ decimal c.args.number) c.rows.result.default c.args.line.now
    t.row.items t.verdict t.source)) c.in-Some.is c.in_ok-told.ensures.told in
    told_mark (c.rows.result.prefix.now ++ decimal c.args.number) c.args.self.now.default c.rows.result.default c.args.line.now
    c.in-Some.told.row.items _ c.reply_of.result.mark c.rows.ensures.default c.reply_of.ensures.mark filled tells

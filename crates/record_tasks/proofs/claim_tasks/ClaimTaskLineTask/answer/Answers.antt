use Rattle.std.proofs.Common.{ap, decimal, ◌++◌}
use Rattle.record_tasks.proofs.Claimed.{reply_told}
use Rattle.record_tasks.proofs.Counted.{told_mark}
use Rattle.record_tasks.proofs.claim_tasks.ClaimTaskLineTask.answer.Goals as goal

pub returns : goal.returns
returns c = record {
  reply = reply_told c.args.self.now.prefix.items c.rows.result.prefix.now c.args.self.now.default c.rows.result.default c.args.number
      c.args.line.now c.in_ok-told.told.row.items c.reply_of.result.text.items c.in_ok-told.told.verdict c.in_ok-told.told.source
      c.reply_of.result.refused c.rows.ensures.prefix c.rows.ensures.default (ap (λ v. v.items) c.reply_of.ensures.text)
      c.reply_of.ensures.refused c.requires.filled c.in_ok-told.ensures.told;
  mark = told_mark (c.rows.result.prefix.now ++ decimal c.args.number) c.args.self.now.default c.rows.result.default c.args.line.now
      c.in_ok-told.told.row.items _ c.reply_of.result.mark c.rows.ensures.default c.reply_of.ensures.mark c.requires.filled
      c.in_ok-told.ensures.told;
}

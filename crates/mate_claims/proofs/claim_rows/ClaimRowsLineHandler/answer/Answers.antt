use Rattle.std.proofs.Common.{◌++◌, decimal, refl, true}
use Rattle.mate_claims.specs.CountedLines.{comes_to}
use Rattle.mate_claims.proofs.ClaimReplies.{told_reply}
use Rattle.mate_claims.proofs.CountedLines.{one_counted}
use Rattle.mate_claims.proofs.claim_rows.ClaimRowsLineHandler.answer.Goals as goal

pub returns-clause-reply : goal.returns-clause-reply
returns-clause-reply c =
    told_reply c.args.self.now.prefix.now (c.args.self.now.prefix.now ++ decimal c.args.number) c.args.self.now.default c.args.number c.args.line.now
    c.in_ok-told.told.row.items c.in_ok-told.told.verdict c.in_ok-told.told.source
    c.refusals.result c.requires.filled refl c.in_ok-told.ensures.told c.refusals.ensures.count

pub returns-clause-behind : goal.returns-clause-behind
returns-clause-behind c = λ before number known. (
  tt,
  one_counted (comes_to c.args.self.now.default) before c.args.line.now c.in_ok-told.told.verdict c.in_ok-told.told.source true
      c.args.memory.now.counts c.tell.new.memory.counts c.requires.filled c.requires.short
      (c.args.self.now.prefix.now ++ decimal c.args.number, c.in_ok-told.told.row.items, c.in_ok-told.ensures.told, refl)
      c.in_ok-told.ensures.counts known,
)

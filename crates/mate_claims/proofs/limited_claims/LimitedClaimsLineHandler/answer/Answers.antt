use Rattle.std.proofs.Common.{◌++◌, decimal, refl}
use Rattle.mate_claims.specs.CountedLines.{comes_in_time_to}
use Rattle.mate_claims.proofs.CountedLines.{one_counted}
use Rattle.mate_claims.proofs.UndecidedClaims.{late_reply, limited_reply, no_fewer_undecided, unstopped_reply}
use Rattle.mate_claims.proofs.limited_claims.LimitedClaimsLineHandler.answer.Goals as goal

pub returns-clause-reply : goal.returns-clause-reply
returns-clause-reply g c =
    limited_reply (g.T.Halt.may_stop c.args.self.now.limited.now.limit.now)
    c.args.self.now.prefix.now (c.args.self.now.prefix.now ++ decimal c.args.number) c.args.self.now.limited.now.default c.args.number
    c.args.line.now c.in_ok-told.told.row.items c.in_ok-told.told.verdict c.in_ok-told.told.source c.in_ok-told.told.is_decided
    c.refusals.result c.requires.filled refl c.in_ok-told.ensures.told c.refusals.ensures.count

pub returns-clause-marked : goal.returns-clause-marked
returns-clause-marked g c =
    late_reply (g.T.Halt.may_stop c.args.self.now.limited.now.limit.now)
    c.args.self.now.prefix.now (c.args.self.now.prefix.now ++ decimal c.args.number) c.args.self.now.limited.now.default c.args.number
    c.args.line.now c.in_ok-told.told.row.items c.in_ok-told.told.verdict c.in_ok-told.told.source c.in_ok-told.told.is_decided
    c.args.memory.now.counts c.tell.new.memory.counts c.requires.filled refl c.in_ok-told.ensures.told c.in_ok-told.ensures.counts

pub returns-clause-grows : goal.returns-clause-grows
returns-clause-grows g c =
    no_fewer_undecided c.in_ok-told.told.verdict c.in_ok-told.told.source c.in_ok-told.told.is_decided c.args.memory.now.counts c.tell.new.memory.counts
    c.in_ok-told.ensures.counts

pub returns-clause-behind : goal.returns-clause-behind
returns-clause-behind g c = λ before number known. (
  unstopped_reply (g.T.Halt.may_stop c.args.self.now.limited.now.limit.now) c.args.self.now.prefix.now
      (c.args.self.now.prefix.now ++ decimal c.args.number) c.args.self.now.limited.now.default c.args.number
      c.args.line.now c.in_ok-told.told.row.items c.in_ok-told.told.verdict c.in_ok-told.told.source c.in_ok-told.told.is_decided
      c.refusals.result c.requires.filled refl c.in_ok-told.ensures.told c.refusals.ensures.count,
  one_counted (comes_in_time_to (g.T.Halt.may_stop c.args.self.now.limited.now.limit.now)
      c.args.self.now.limited.now.default) before c.args.line.now c.in_ok-told.told.verdict c.in_ok-told.told.source
      c.in_ok-told.told.is_decided c.args.memory.now.counts c.tell.new.memory.counts c.requires.filled c.requires.short
      (c.args.self.now.prefix.now ++ decimal c.args.number, c.in_ok-told.told.row.items, c.in_ok-told.ensures.told)
      c.in_ok-told.ensures.counts known,
)

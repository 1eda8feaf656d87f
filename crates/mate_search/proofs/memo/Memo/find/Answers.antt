use Rattle.std.proofs.Common.{sym}
use Rattle.mate_search.proofs.Known.{found_true, kept_promoted}
use Rattle.mate_search.proofs.memo.Memo.find.Goals as goal

pub invariant_of-self : goal.invariant_of-self
invariant_of-self c = kept_promoted c.self.inside.cache c.get.follows.lender-at-none c.args.position.now
    c.self.inside.room c.self.inside.waiting c.get.follows.holds-at-none c.self.invariant

pub invariant_of-self-in-None : goal.invariant_of-self-in-None
invariant_of-self-in-None c = kept_promoted c.self.inside.cache c.get.follows.lender-at-none c.args.position.now
    c.self.inside.room c.self.inside.waiting c.get.follows.holds-at-none c.self.invariant

pub returns-in-Some-clause-known : goal.returns-in-Some-clause-known
returns-in-Some-clause-known c = found_true c.equal_reads.ensures c.args.position.now c.self.inside.cache.entries
    c.in-Some.entry.now c.side.ensures.sound c.self.invariant.each_true (sym (rw c.in-Some.is at c.get.ensures.value))

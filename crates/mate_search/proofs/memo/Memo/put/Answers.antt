use Rattle.std.proofs.Common.{arith}
use Rattle.mate_search.proofs.Known.{kept_after}
use Rattle.mate_search.proofs.memo.Memo.put.Goals as goal

pub invariant_of-self : goal.invariant_of-self
invariant_of-self c = kept_after c.equal_reads.ensures c.put.result c.self.inside.cache c.put.new.self c.args.position.now
    c.args.entry c.self.inside.room c.self.inside.waiting c.put.ensures.entries c.put.ensures.err c.self.invariant c.requires

pub returns-then-is_ok-clause-within : goal.returns-then-is_ok-clause-within
returns-then-is_ok-clause-within c =
    let kept = kept_after c.equal_reads.ensures c.put.result c.self.inside.cache c.put.new.self c.args.position.now
    c.args.entry c.self.inside.room c.self.inside.waiting c.put.ensures.entries c.put.ensures.err c.self.invariant c.requires in
    omega (arith, kept.within, kept.in_room)

use Rattle.std.proofs.Common.{arith}
use Rattle.mate_search.proofs.Known.{kept_resized}
use Rattle.mate_search.proofs.memo.Memo.make_do.Goals as goal

pub invariant_of-self : goal.invariant_of-self
invariant_of-self c = kept_resized c.self.inside.cache c.resize.new.self c.in-Some.most.value c.self.inside.room c.self.inside.waiting
    c.max-self-inside.result c.resize.ensures
    (omega (arith, c.in-Some.most.ok))
    (omega (arith, c.in-Some.ensures, c.fewer.ensures, c.len-held.ensures.len, c.self.invariant.within, c.self.invariant.in_room))
    (λ z. absurd (omega (arith, z, c.max-self-inside.ensures)))
    c.self.invariant

use Rattle.std.proofs.Common.{◌∙◌, [], ◌∷◌, ◌++◌, List, ap, arith}
use Rattle.std.proofs.lemmas.List.{replicate_more}
use Rattle.mate_desk.specs.Content.{QueueValue}
use Rattle.mate_desk.proofs.Following.{kept_new}
use Rattle.mate_desk.proofs.desks.Desk.new.Goals as goal

pub invariant_of-result : goal.invariant_of-result
invariant_of-result c = rw c.loop.invariant.items
    (kept_new c.args.first c.loop.counter c.args.room (omega arith, omega arith) (omega arith, omega arith))

pub loop-preserved : goal.loop-preserved
loop-preserved c =
    let i = c.loop.invariant in
    let q : QueueValue = record { room = c.args.room; delivered = 0; pending = [] } in
    record {
      items = c.push_reserved.ensures.items
          ∙ (ap (λ (k : QueueValue). c.loop.queues.items ++ k ∷ []) c.in-Ok-new.ensures
          ∙ (ap (λ (qs : List QueueValue). qs ++ q ∷ []) i.items ∙ replicate_more c.loop.counter q));
      len = omega (arith, c.push_reserved.ensures.len, i.len);
      room = omega (arith, c.push_reserved.ensures.capacity, i.room);
    }

use Rattle.std.proofs.Common.{◌≡◌, ◌∙◌, ℕ, sym, ap, arith, true, false, Option}
use Rattle.mate_desk.specs.Content.{lowest}
use Rattle.mate_desk.specs.inside.Keeping.{is_lower}
use Rattle.mate_desk.proofs.Changes.{got}
use Rattle.mate_desk.proofs.Joined.{lowest_more, stands_here, still_stands}
use Rattle.mate_desk.proofs.lookups.first_waiting.Goals as goal
use Rattle.mate_desk.proofs.lookups.first_waiting.Goals.{then-is_lower, else-is_lower}

pub loop-s-preserved : goal.loop-s-preserved
loop-s-preserved c =
    let there = got c.args.queues.now c.loop-s.s c.index-queues-s.result (omega arith) c.index-queues-s.is in
    let more = lowest_more c.args.queues.now c.loop-s.s c.index-queues-s.result c.loop-s.least there c.loop-s.invariant.least in
    let test : is_lower c.lowest-ticket.result c.loop-s.least ≡ is_lower (lowest c.index-queues-s.result.pending) c.loop-s.least =
    ap (λ (o : Option ℕ). is_lower o c.loop-s.least) c.lowest-ticket.ensures in
    elim c.if-is_lower.branch [
      | then-is_lower w ↦
          let lower : is_lower (lowest c.index-queues-s.result.pending) c.loop-s.least ≡ true =
          sym test ∙ (sym c.is_lower.ensures ∙ w.if-is_lower.true) in
          rw (w.least-is, w.first-is) (record {
            least = (rw lower at more) ∙ sym c.lowest-ticket.ensures;
            first = stands_here
                c.args.queues.now c.loop-s.s c.index-queues-s.result c.lowest-ticket.result there (sym c.lowest-ticket.ensures);
          })
      | else-is_lower w ↦
          let higher : is_lower (lowest c.index-queues-s.result.pending) c.loop-s.least ≡ false =
          sym test ∙ (sym c.is_lower.ensures ∙ w.if-is_lower.false) in
          rw (w.least-is, w.first-is) (record {
            least = rw higher at more;
            first = still_stands c.args.queues.now c.loop-s.s c.loop-s.first c.loop-s.least c.loop-s.invariant.first;
          })
    ]

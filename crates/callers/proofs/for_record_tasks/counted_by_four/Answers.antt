use Rattle.std.proofs.Common.{[], subst, sym}
use Rattle.mate_claims.specs.Counts.{no_counts}
use Rattle.record_tasks.specs.ClaimTasks.{AreAllCounted, none}
use Rattle.text_lines.specs.Lines.{texts_of}
use Rattle.callers.proofs.for_record_tasks.counted_by_four.Goals as goal

pub returns : goal.returns
returns g c =
    let (bytes, text, is, (reply, counts), gained) = c.in_ok-answer_in_order.ensures.counted []
    (subst (AreAllCounted c.args.default []) (sym c.new-tally.ensures) none) in
    subst (λ b. AreAllCounted c.args.default (texts_of b) c.answer_in_order.new.tally.counts) is counts

use Rattle.std.proofs.Common.{refl}
use Rattle.problem_import.proofs.TextParts.{cut_here, cut_more, cut_none, shorter_rest}
use Rattle.problem_import.proofs.tokens.first_part.Goals as goal

pub loop-index-preserved : goal.loop-index-preserved
loop-index-preserved c =
    cut_more _ _ c.without_first-rest.result.now _ _ _ _ _ c.loop-index.invariant c.loop-index-test.true refl (cc) c.without_first-rest.ensures
    c.mark_behind-mark.ensures

pub returns-then-ends_part-clause-ended : goal.returns-then-ends_part-clause-ended
returns-then-ends_part-clause-ended c = λ _.
    cut_here _ _ _ c.without_first-rest.result.now _ _ _ _ c.loop-index.invariant c.loop-index-test.true refl (cc) c.split_at.ensures.front
    c.without_first-rest.ensures

pub returns-clause-last : goal.returns-clause-last
returns-clause-last c = λ _. cut_none _ _ _ _ _ c.loop-index.invariant c.loop-index-test.false

pub returns-then-ends_part-clause-shorter : goal.returns-then-ends_part-clause-shorter
returns-then-ends_part-clause-shorter c = λ _.
    shorter_rest c.args.text.now c.without_first-rest.result.now c.loop-index.index c.without_first-rest.ensures c.loop-index-test.true

use Rattle.std.proofs.Common.{List, []}
use Rattle.std.specs.Borrow.{Bor}
use Rattle.std.proofs.lemmas.List.{take_more}
use Rattle.fault_explanations.specs.declared.explanations.Explanation.{Explanation}
use Rattle.fault_explanations.specs.Explained.{sentences}
use Rattle.fault_explanations.proofs.Appended.{appended_more}
use Rattle.fault_explanations.proofs.explaining.all_sentences.Goals as goal

pub loop-explanations-preserved : goal.loop-explanations-preserved
loop-explanations-preserved c =
    appended_more (λ (g : Bor (List Explanation)). sentences g.now) [] c.loop-explanations.text.items c.push_sentences.new.text.items _ _ _
    (take_more c.args.groups.now c.loop-explanations.explanations-index _ c.loop-explanations-test.true)
    c.loop-explanations.invariant c.in_ok-push_sentences.ensures

use Rattle.std.proofs.Common.{[], ◌++◌}
use Rattle.std.specs.Borrow.{Bor}
use Rattle.chess_views.specs.Lines.{line}
use Rattle.fault_explanations.specs.declared.explanations.Explanation.{Explanation}
use Rattle.fault_explanations.specs.Explained.{explanation_text}
use Rattle.fault_explanations.proofs.Appended.{appended_more, behind_byte, mapped_more}
use Rattle.fault_explanations.proofs.explaining.push_more.Goals as goal

pub loop-next-preserved : goal.loop-next-preserved
loop-next-preserved c =
    let adds = behind_byte _ _ _ _ 10 c.in_ok-push.ensures.items c.in_ok-push_explanation.ensures in
    appended_more (λ next. line [] ++ explanation_text next) c.args.text.now.items c.loop-next.text.items c.push_explanation.new.text.items _ _ _
    (mapped_more (λ (e : Bor Explanation). e.now) c.args.more.now c.loop-next.next-index _ c.loop-next-test.true)
    c.loop-next.invariant adds

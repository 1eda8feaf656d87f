use Rattle.std.specs.Borrow.{Bor}
use Rattle.fault_explanations.specs.declared.explanations.Explanation.{Explanation}
use Rattle.fault_explanations.proofs.Appended.{all_explained}
use Rattle.fault_explanations.proofs.explaining.each_explained.Goals as goal

pub returns-clause-some : goal.returns-clause-some
returns-clause-some c =
    all_explained (λ (e : Bor Explanation). e.now) c.args.found.now _ _ _ _ c.in-len1-up.len_at_least c.new-text.ensures.items
    c.in_ok-push_explanation.ensures c.in_ok-push_more.ensures

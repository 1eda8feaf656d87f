use Rattle.std.proofs.Common.{ℕ, List, ◌∙◌, ap, map}
use Rattle.std.specs.Borrow.{Bor}
use Rattle.fault_explanations.specs.declared.explanations.Explanation.{Explanation}
use Rattle.fault_explanations.specs.Explained.{explanation_of, named, one_or_none}
use Rattle.fault_explanations.proofs.Appended.{added_none, added_some, appended_more, mapped_more}
use Rattle.fault_explanations.proofs.explaining.push_named.Goals as goal
use Rattle.fault_explanations.proofs.explaining.push_named.Goals.{in-Some+in_ok-push, in_default}

pub loop-word-preserved : goal.loop-word-preserved
unfolding named
loop-word-preserved c =
    let told = λ (e : Bor Explanation). e.now in
    let old = c.loop-word.found.items in
    let longer = mapped_more (λ (w : Bor (List ℕ)). w.now) c.args.words.now c.loop-word.word-index _ c.loop-word-test.true in
    elim c.match-explanation_of.branch [
      | in-Some+in_ok-push w ↦
          appended_more (λ word. one_or_none (explanation_of c.args.groups.now word)) (map told c.args.found.now.items) _ _ _ _ _ longer c.loop-word.invariant
          (added_some told old c.match-explanation_of.found.items w.in-Some.explanation _ _ (ap (λ v. v.items) w.found-is ∙ w.in_ok-push.ensures.items)
          w.in-Some.is c.explanation_of.ensures)
      | in_default w ↦
          appended_more (λ word. one_or_none (explanation_of c.args.groups.now word)) (map told c.args.found.now.items) _ _ _ _ _ longer c.loop-word.invariant
          (added_none told old c.match-explanation_of.found.items _ _ (ap (λ v. v.items) w.found-is) w.in_default.is c.explanation_of.ensures)
    ]

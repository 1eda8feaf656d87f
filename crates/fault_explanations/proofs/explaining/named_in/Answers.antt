use Rattle.std.proofs.Common.{◌∙◌, ◌++◌, ℕ, List, [], ap, map}
use Rattle.std.specs.Borrow.{Bor}
use Rattle.fault_explanations.specs.declared.explanations.Explanation.{Explanation}
use Rattle.fault_explanations.specs.Explained.{named, named_in, words_of}
use Rattle.fault_explanations.proofs.Appended.{appended_more, mapped_more}
use Rattle.fault_explanations.proofs.explaining.named_in.Goals as goal

pub loop-reply-preserved : goal.loop-reply-preserved
unfolding named_in
loop-reply-preserved c =
    let old = map (λ (e : Bor Explanation). e.now) c.loop-reply.found.items in
    let adds = c.in_ok-push_named.ensures
    ∙ ap (λ ws. old ++ named c.args.groups.now ws) (ap (map (λ (w : Bor (List ℕ)). w.now)) c.as_slice.ensures.value ∙ c.in_ok-words.ensures
    ∙ ap words_of c.as_bytes.ensures.value) in
    appended_more (λ reply. named c.args.groups.now (words_of reply)) [] old _ _ _ _
    (mapped_more (λ (s : Bor (List ℕ)). s.now) c.args.replies.now c.loop-reply.reply-index _ c.loop-reply-test.true)
    c.loop-reply.invariant adds

use Rattle.std.proofs.lemmas.List.{take_more}
use Rattle.fault_explanations.specs.Explained.{sentence, sentences}
use Rattle.fault_explanations.proofs.Appended.{appended_more}
use Rattle.fault_explanations.proofs.explaining.push_sentences.Goals as goal

pub loop-explanation-preserved : goal.loop-explanation-preserved
unfolding sentences
loop-explanation-preserved c =
    appended_more sentence c.args.text.now.items c.loop-explanation.text.items c.push_sentence.new.text.items _ _ _
    (take_more c.args.explanations.now c.loop-explanation.explanation-index _ c.loop-explanation-test.true)
    c.loop-explanation.invariant c.in_ok-push_sentence.ensures

use Rattle.std.proofs.Common.{◌≡◌, ◌++◌, take}
use Rattle.fault_explanations.specs.Explained.{sentences}
use Rattle.fault_explanations.proofs.explaining.push_sentences.Given as goal

abbrev pub invariant-loop-explanation : goal.invariant-loop-explanation
invariant-loop-explanation l = l.text.items ≡ l.fn.text.items ++ sentences (take l.explanation-index l.explanations)

use Rattle.std.proofs.Common.{◌≡◌, take}
use Rattle.std.specs.Prelude.{flat_map}
use Rattle.fault_explanations.specs.Explained.{sentences}
use Rattle.fault_explanations.proofs.explaining.all_sentences.Given as goal

abbrev pub invariant-loop-explanations : goal.invariant-loop-explanations
invariant-loop-explanations l = l.text.items ≡ flat_map (λ g. sentences g.now) (take l.explanations-index l.groups)

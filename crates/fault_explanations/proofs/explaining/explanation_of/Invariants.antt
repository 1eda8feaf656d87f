use Rattle.std.proofs.Common.{◌≡◌, length}
use Rattle.fault_explanations.specs.Explained.{explanation_of}
use Rattle.fault_explanations.proofs.explaining.explanation_of.Given as goal

abbrev pub invariant-loop-rest : goal.invariant-loop-rest
invariant-loop-rest l = explanation_of l.rest l.word ≡ explanation_of l.groups l.word

abbrev pub decreases-loop-rest : goal.decreases-loop-rest
decreases-loop-rest l = length l.rest

use Rattle.problem_import.proofs.TextParts.{IsCutSoFar}
use Rattle.problem_import.proofs.tokens.first_part.Given as goal

abbrev pub invariant-loop-index : goal.invariant-loop-index
invariant-loop-index l = IsCutSoFar l.sign l.text l.mark l.before l.index

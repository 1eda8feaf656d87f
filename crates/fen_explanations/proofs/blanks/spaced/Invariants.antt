use Rattle.std.proofs.Common.{◌≡◌, ◌++◌, length}
use Rattle.fen_explanations.specs.Blanks.{spaced, spaced_from}
use Rattle.fen_explanations.proofs.blanks.spaced.Given as goal

abbrev pub invariant-loop-rest : goal.invariant-loop-rest
invariant-loop-rest l = l.out.items ++ spaced_from l.passes l.rest ≡ spaced l.text

abbrev pub decreases-loop-rest : goal.decreases-loop-rest
decreases-loop-rest l = length l.rest

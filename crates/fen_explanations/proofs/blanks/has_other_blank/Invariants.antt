use Rattle.std.proofs.Common.{◌≡◌, length}
use Rattle.fen_explanations.specs.Blanks.{has_other_blank}
use Rattle.fen_explanations.proofs.blanks.has_other_blank.Given as goal

abbrev pub invariant-loop-rest : goal.invariant-loop-rest
invariant-loop-rest l = has_other_blank l.rest ≡ has_other_blank l.text

abbrev pub decreases-loop-rest : goal.decreases-loop-rest
decreases-loop-rest l = length l.rest

use Rattle.std.proofs.Common.{◌≡◌, length}
use Rattle.fen_explanations.specs.Placements.{letter_at}
use Rattle.fen_explanations.proofs.placements.letter_at.Given as goal

abbrev pub invariant-loop-rest : goal.invariant-loop-rest
invariant-loop-rest l = letter_at l.rest l.left ≡ letter_at l.rank l.file

abbrev pub decreases-loop-rest : goal.decreases-loop-rest
decreases-loop-rest l = length l.rest

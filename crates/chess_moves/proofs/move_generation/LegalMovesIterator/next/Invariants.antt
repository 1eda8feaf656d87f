use Rattle.std.proofs.Common.{◌≡◌, length}
use Rattle.square_sets.specs.Members.{members}
use Rattle.chess_moves.specs.inside.MoveGeneration.{moves_left, IsUnderWay}
use Rattle.chess_moves.proofs.move_generation.LegalMovesIterator.next.Given as goal

-- men without a legal move have their turn, and what is left stays what it was
abbrev pub invariant-loop-self : goal.invariant-loop-self
invariant-loop-self l = record {
  way : IsUnderWay l.self-inside;
  left : moves_left l.self-inside ≡ l.fn.self;
}

abbrev pub decreases-loop-self : goal.decreases-loop-self
decreases-loop-self l = length (members l.self-inside.origins)

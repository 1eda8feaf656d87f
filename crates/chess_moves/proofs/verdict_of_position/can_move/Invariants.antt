use Rattle.std.proofs.Common.{◌≡◌, length}
use Rattle.square_sets.specs.Members.{members}
use Rattle.chess_moves.specs.inside.MoveGeneration.{moves_of_men, HaveOwnMen}
use Rattle.chess_moves.proofs.verdict_of_position.can_move.Given as goal

-- none of the men so far has a move
abbrev pub invariant-loop-origin : goal.invariant-loop-origin
invariant-loop-origin l = record {
  none : length (moves_of_men l.info.position.now (members l.origin-iterator)) ≡ length (moves_of_men l.info.position.now (members l.men));
  own : HaveOwnMen l.origin-iterator l.info.position.now;
}

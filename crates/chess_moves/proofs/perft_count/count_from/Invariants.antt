use Rattle.std.proofs.Common.{◌≡◌, ◌+◌, length}
use Rattle.square_sets.specs.Members.{members}
use Rattle.chess_moves.specs.inside.MoveGeneration.{moves_of_men, HaveMenOf}
use Rattle.chess_moves.proofs.perft_count.count_from.Given as goal

-- those counted, and those of the men that are left
abbrev pub invariant-loop-origin : goal.invariant-loop-origin
invariant-loop-origin l = record {
  counted : l.total + length (moves_of_men l.info.position.now (members l.origin-iterator)) ≡ length (moves_of_men l.info.position.now (members l.men));
  men : HaveMenOf l.fn.kind l.origin-iterator l.info.position.now;
}

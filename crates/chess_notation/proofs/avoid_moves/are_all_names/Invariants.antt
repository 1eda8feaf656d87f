use Rattle.std.proofs.Common.{◌≡◌, length}
use Rattle.std.specs.List.{list_all}
use Rattle.chess_notation.specs.Words.{words_in}
use Rattle.chess_notation.specs.AvoidMoves.{is_name}
use Rattle.chess_notation.proofs.avoid_moves.are_all_names.Given as goal

abbrev pub invariant-loop-rest : goal.invariant-loop-rest
invariant-loop-rest l = list_all (is_name l.position) (words_in l.rest) ≡ list_all (is_name l.position) (words_in l.words)

abbrev pub decreases-loop-rest : goal.decreases-loop-rest
decreases-loop-rest l = length l.rest

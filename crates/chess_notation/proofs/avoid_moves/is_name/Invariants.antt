use Rattle.std.proofs.Common.{◌≡◌}
use Rattle.std.specs.List.{list_any}
use Rattle.chess_moves.specs.inside.Listing.{legal_moves}
use Rattle.chess_notation.specs.AvoidMoves.{names}
use Rattle.chess_notation.proofs.avoid_moves.is_name.Given as goal

-- no move so far
abbrev pub invariant-loop-m : goal.invariant-loop-m
invariant-loop-m l = list_any (names l.position l.word) l.m-iterator ≡ list_any (names l.position l.word) (legal_moves l.position)

use Rattle.std.proofs.Common.{◌≡◌, ◌++◌}
use Rattle.chess_moves.specs.inside.Listing.{legal_moves}
use Rattle.chess_moves.proofs.move_generation.legal.Given as goal

-- those listed, and those that are still to come
abbrev pub invariant-loop-m : goal.invariant-loop-m
invariant-loop-m l = l.list.items ++ l.m-iterator ≡ legal_moves l.position

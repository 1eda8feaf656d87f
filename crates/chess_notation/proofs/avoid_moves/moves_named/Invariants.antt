use Rattle.std.proofs.Common.{◌≡◌, ◌++◌, filter}
use Rattle.std.specs.List.{list_any}
use Rattle.chess_notation.specs.Words.{words_in}
use Rattle.chess_notation.specs.AvoidMoves.{names, named}
use Rattle.chess_notation.proofs.avoid_moves.moves_named.Given as goal

-- those so far, and those that are still to come
abbrev pub invariant-loop-m : goal.invariant-loop-m
invariant-loop-m l = l.moves.items ++ filter (λ m. list_any (λ word. names l.position word m) (words_in l.words)) l.m-iterator
    ≡ named l.position (words_in l.words)

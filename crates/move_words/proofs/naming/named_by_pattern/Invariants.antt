use Rattle.std.proofs.Common.{◌≡◌, filter}
use Rattle.chess_moves.specs.inside.Listing.{legal_moves}
use Rattle.move_words.specs.Naming.{named_by}
use Rattle.move_words.specs.Patterns.{fits}
use Rattle.move_words.specs.inside.Counting.{with_moves}
use Rattle.move_words.proofs.naming.named_by_pattern.Given as goal

-- those so far, and those that are still to come
abbrev pub invariant-loop-m : goal.invariant-loop-m
invariant-loop-m l = with_moves l.named (filter (fits l.position l.pattern) l.m-iterator) ≡ named_by (filter (fits l.position l.pattern) (legal_moves l.position))

use Rattle.std.proofs.Common.{◌≡◌, not, take, filter}
use Rattle.std.specs.List.{list_any}
use Rattle.chess_problems.specs.SameProblems.{is_same_move}
use Rattle.uci_commands.proofs.move_searches.all_but.Given as goal

abbrev pub invariant-loop-m : goal.invariant-loop-m
invariant-loop-m l = l.avoid.items ≡ filter (λ m. not (list_any (is_same_move m) l.moves)) (take l.m-index l.m-items)

use Rattle.std.proofs.Common.{◌≡◌, false, take}
use Rattle.std.specs.List.{list_any}
use Rattle.chess_problems.specs.SameProblems.{is_same_move}
use Rattle.chess_problems.proofs.same_problems.is_among.Given as goal

abbrev pub invariant-loop-n : goal.invariant-loop-n
invariant-loop-n l = list_any (is_same_move l.m) (take l.n-index l.moves) ≡ false

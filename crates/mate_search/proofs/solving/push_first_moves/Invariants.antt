use Rattle.std.proofs.Common.{◌≡◌, ◌+◌, ◌≤◌, ◌++◌, not, filter, length}
use Rattle.std.specs.List.{list_any}
use Rattle.chess_problems.specs.SameProblems.{is_same_move}
use Rattle.mate_search.specs.inside.Truth.{first_moves}
use Rattle.mate_search.proofs.solving.push_first_moves.Given as goal

-- those listed, and of those that are still to come those that are not to be avoided
abbrev pub invariant-loop-m : goal.invariant-loop-m
invariant-loop-m l = record {
  kept : l.out.items ++ filter (λ m. not (list_any (is_same_move m) l.problem.avoid)) l.m-iterator ≡ first_moves l.problem;
  few : length l.out.items + length l.m-iterator ≤ 1024;
}

use Rattle.std.proofs.Common.{◌≡◌, ◌≤◌, ◌+◌, ◌*◌, ◌-◌, ◌^◌, true, length}
use Rattle.std.specs.List.{sum_by, list_all}
use Rattle.chess_board.specs.MakeMove.{after_setup}
use Rattle.chess_board.specs.Legality.{is_legal}
use Rattle.chess_moves.specs.Plays.{plays}
use Rattle.chess_moves.proofs.perft_count.+count_plays.Given as goal

abbrev pub decreases-count_plays : goal.decreases-count_plays
decreases-count_plays l = l.depth

abbrev pub invariant-loop-m : goal.invariant-loop-m
invariant-loop-m l = record {
  counted : l.total + sum_by (λ m. length (plays (after_setup l.position m) (l.depth - 1))) l.m-iterator ≡ length (plays l.position l.depth);
  few : l.total + length l.m-iterator * 1024 ^ (l.depth - 1) ≤ 1024 * 1024 ^ (l.depth - 1);
  legal : list_all (is_legal l.position) l.m-iterator ≡ true;
}

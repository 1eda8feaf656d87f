use Rattle.std.proofs.Common.{◌≡◌, ◌+◌, ◌-◌, ◌*◌, ◌||◌, true, false, length}
use Rattle.std.specs.Prelude.{nat_lt}
use Rattle.std.specs.List.{list_any, list_all}
use Rattle.chess_board.specs.MakeMove.{after_setup}
use Rattle.chess_board.specs.Legality.{is_legal}
use Rattle.chess_moves.specs.inside.Listing.{legal_moves}
use Rattle.chess_moves.specs.Verdicts.{has_legal_move}
use Rattle.mate_search.specs.Wins.{win, leaves_lost}
use Rattle.mate_search.specs.inside.Replies.{each_loses}
use Rattle.mate_search.proofs.searching.+search.Given as goal

abbrev pub decreases-wins : goal.decreases-wins
decreases-wins g l = 10 * l.n + 4

abbrev pub decreases-wins_longer : goal.decreases-wins_longer
decreases-wins_longer g l = 10 * l.n + 3

abbrev pub decreases-least_win : goal.decreases-least_win
decreases-least_win g l = 10 * l.n + 2

abbrev pub decreases-wins_within : goal.decreases-wins_within
decreases-wins_within g l = 10 * l.n + 1

abbrev pub decreases-wins_by_some : goal.decreases-wins_by_some
decreases-wins_by_some g l = 10 * l.n

abbrev pub decreases-wins_in_two : goal.decreases-wins_in_two
decreases-wins_in_two g l = 20

abbrev pub decreases-loses : goal.decreases-loses
decreases-loses g l = 10 * l.k + 8

abbrev pub decreases-loses_again : goal.decreases-loses_again
decreases-loses_again g l = 10 * l.k + 9

abbrev pub decreases-is_refuted_first : goal.decreases-is_refuted_first
decreases-is_refuted_first g l = 10 * l.k + 7

abbrev pub decreases-loses_each : goal.decreases-loses_each
decreases-loses_each g l = 10 * l.k + 6

abbrev pub decreases-is_refuted_by_check : goal.decreases-is_refuted_by_check
decreases-is_refuted_by_check g l = 10 * l.k + 5

abbrev pub decreases-is_refuted_by_capture : goal.decreases-is_refuted_by_capture
decreases-is_refuted_by_capture g l = 10 * l.k + 5

abbrev pub decreases-loses_by_men : goal.decreases-loses_by_men
decreases-loses_by_men g l = 10 * l.k + 6

abbrev pub decreases-each_loses : goal.decreases-each_loses
decreases-each_loses g l = 10 * l.k + 5

abbrev pub decreases-refutes : goal.decreases-refutes
decreases-refutes g l = 10 * l.k + 5

-- no mate within k moves
abbrev pub invariant-least_win-loop-k : goal.invariant-least_win-loop-k
invariant-least_win-loop-k g l = record {
  none : win l.k l.position ≡ false;
  room : l.memo.room ≡ l.fn.memo.room;
}

-- no move so far wins
abbrev pub invariant-wins_by_some-loop-m : goal.invariant-wins_by_some-loop-m
invariant-wins_by_some-loop-m g l = record {
  any : list_any (leaves_lost (l.n - 1) l.position) l.m-iterator ≡ list_any (leaves_lost (l.n - 1) l.position) (legal_moves l.position);
  legal : list_all (is_legal l.position) l.m-iterator ≡ true;
  room : l.memo.room ≡ l.fn.memo.room;
}

-- no move so far wins
abbrev pub invariant-wins_in_two-loop-m : goal.invariant-wins_in_two-loop-m
invariant-wins_in_two-loop-m g l = record {
  any : list_any (leaves_lost 1 l.position) l.m-iterator ≡ list_any (leaves_lost 1 l.position) (legal_moves l.position);
  legal : list_all (is_legal l.position) l.m-iterator ≡ true;
  room : l.memo.room ≡ l.fn.memo.room;
}

-- each reply so far loses
abbrev pub invariant-loses_each-loop-r : goal.invariant-loses_each-loop-r
invariant-loses_each-loop-r g l = record {
  all : list_all (λ r. win l.k (after_setup l.position r)) l.r-iterator ≡ list_all (λ r. win l.k (after_setup l.position r)) (legal_moves l.position);
  some : (l.moves || nat_lt 0 (length l.r-iterator)) ≡ has_legal_move l.position;
  legal : list_all (is_legal l.position) l.r-iterator ≡ true;
  room : l.memo.room ≡ l.fn.memo.room;
}

-- the replies to come are among the legal moves
abbrev pub invariant-is_refuted_by_capture-loop-r : goal.invariant-is_refuted_by_capture-loop-r
invariant-is_refuted_by_capture-loop-r g l = record {
  all : list_all (λ r. win l.k (after_setup l.position r)) (legal_moves l.position) ≡ true
      → list_all (λ r. win l.k (after_setup l.position r)) l.r-iterator ≡ true;
  some : nat_lt 0 (length l.r-iterator) ≡ true → has_legal_move l.position ≡ true;
  legal : list_all (is_legal l.position) l.r-iterator ≡ true;
  room : l.memo.room ≡ l.fn.memo.room;
}

-- the same of those that are asked whether they check
abbrev pub invariant-is_refuted_by_check-loop-r : goal.invariant-is_refuted_by_check-loop-r
invariant-is_refuted_by_check-loop-r g l = record {
  all : list_all (λ r. win l.k (after_setup l.position r)) (legal_moves l.position) ≡ true
      → list_all (λ r. win l.k (after_setup l.position r)) l.r-iterator ≡ true;
  some : nat_lt 0 (length l.r-iterator) ≡ true → has_legal_move l.position ≡ true;
  legal : list_all (is_legal l.position) l.r-iterator ≡ true;
  room : l.memo.room ≡ l.fn.memo.room;
}

-- each reply so far of these men loses
abbrev pub invariant-each_loses-loop-r : goal.invariant-each_loses-loop-r
invariant-each_loses-loop-r g l = record {
  all : list_all (λ r. win l.k (after_setup l.position r)) l.r-iterator ≡ each_loses l.men l.k l.position;
  legal : list_all (is_legal l.position) l.r-iterator ≡ true;
  room : l.memo.room ≡ l.fn.memo.room;
}

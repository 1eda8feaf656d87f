use Rattle.std.proofs.Common.{◌≡◌, ◌+◌, ◌*◌, true}
use Rattle.std.specs.List.{list_all}
use Rattle.chess_board.specs.Legality.{is_legal}
use Rattle.problem_tests.proofs.plain_search.+search.Given as goal

abbrev pub decreases-wins : goal.decreases-wins
decreases-wins g l = 9 * l.n + 3

abbrev pub decreases-wins_longer : goal.decreases-wins_longer
decreases-wins_longer g l = 9 * l.n + 2

abbrev pub decreases-least_win : goal.decreases-least_win
decreases-least_win g l = 9 * l.n + 1

abbrev pub decreases-wins_by_some : goal.decreases-wins_by_some
decreases-wins_by_some g l = 9 * l.n

abbrev pub decreases-loses : goal.decreases-loses
decreases-loses g l = 9 * l.k + 7

abbrev pub decreases-loses_again : goal.decreases-loses_again
decreases-loses_again g l = 9 * l.k + 8

abbrev pub decreases-is_refuted_first : goal.decreases-is_refuted_first
decreases-is_refuted_first g l = 9 * l.k + 6

abbrev pub decreases-is_refuted_by_killer : goal.decreases-is_refuted_by_killer
decreases-is_refuted_by_killer g l = 9 * l.k + 5

abbrev pub decreases-loses_each : goal.decreases-loses_each
decreases-loses_each g l = 9 * l.k + 5

abbrev pub decreases-is_refuted_by_check : goal.decreases-is_refuted_by_check
decreases-is_refuted_by_check g l = 9 * l.k + 4

abbrev pub decreases-is_refuted_by_capture : goal.decreases-is_refuted_by_capture
decreases-is_refuted_by_capture g l = 9 * l.k + 4

abbrev pub decreases-loses_by_men : goal.decreases-loses_by_men
decreases-loses_by_men g l = 9 * l.k + 5

abbrev pub decreases-is_refuted_by_men : goal.decreases-is_refuted_by_men
decreases-is_refuted_by_men g l = 9 * l.k + 4

abbrev pub decreases-refutes : goal.decreases-refutes
decreases-refutes g l = 9 * l.k + 4

-- the moves to come are legal
abbrev pub invariant-wins_by_some-loop-m : goal.invariant-wins_by_some-loop-m
invariant-wins_by_some-loop-m g l = list_all (is_legal l.position) l.m-iterator ≡ true

abbrev pub invariant-loses_each-loop-r : goal.invariant-loses_each-loop-r
invariant-loses_each-loop-r g l = list_all (is_legal l.position) l.r-iterator ≡ true

abbrev pub invariant-is_refuted_by_capture-loop-r : goal.invariant-is_refuted_by_capture-loop-r
invariant-is_refuted_by_capture-loop-r g l = list_all (is_legal l.position) l.r-iterator ≡ true

abbrev pub invariant-is_refuted_by_check-loop-r : goal.invariant-is_refuted_by_check-loop-r
invariant-is_refuted_by_check-loop-r g l = list_all (is_legal l.position) l.r-iterator ≡ true

abbrev pub invariant-is_refuted_by_men-loop-r : goal.invariant-is_refuted_by_men-loop-r
invariant-is_refuted_by_men-loop-r g l = list_all (is_legal l.position) l.r-iterator ≡ true

use Rattle.std.proofs.Common.{◌≡◌, true}
use Rattle.std.specs.List.{list_all}
use Rattle.chess_board.specs.Legality.{is_legal}
use Rattle.problem_tests.proofs.plain_search.is_known_refuted.Given as goal

-- the replies to come are legal
abbrev pub invariant-loop-r : goal.invariant-loop-r
invariant-loop-r l = list_all (is_legal l.position) l.r-iterator ≡ true

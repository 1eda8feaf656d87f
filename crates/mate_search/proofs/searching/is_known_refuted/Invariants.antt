use Rattle.std.proofs.Common.{◌≡◌, true, length}
use Rattle.std.specs.Prelude.{nat_lt}
use Rattle.std.specs.List.{list_all}
use Rattle.chess_board.specs.MakeMove.{after_setup}
use Rattle.chess_board.specs.Legality.{is_legal}
use Rattle.chess_moves.specs.inside.Listing.{legal_moves}
use Rattle.chess_moves.specs.Verdicts.{has_legal_move}
use Rattle.mate_search.specs.Wins.{win}
use Rattle.mate_search.proofs.searching.is_known_refuted.Given as goal

-- the replies to come are among the legal moves
abbrev pub invariant-loop-r : goal.invariant-loop-r
invariant-loop-r l = record {
  all : list_all (λ r. win l.k (after_setup l.position r)) (legal_moves l.position) ≡ true
      → list_all (λ r. win l.k (after_setup l.position r)) l.r-iterator ≡ true;
  some : nat_lt 0 (length l.r-iterator) ≡ true → has_legal_move l.position ≡ true;
  legal : list_all (is_legal l.position) l.r-iterator ≡ true;
  room : l.memo.room ≡ l.fn.memo.room;
}

use Rattle.std.proofs.Common.{◌≡◌, true, not, find}
use Rattle.std.specs.List.{list_all}
use Rattle.chess_board.specs.MakeMove.{after_setup}
use Rattle.chess_board.specs.Legality.{is_legal}
use Rattle.chess_moves.specs.inside.Listing.{legal_moves}
use Rattle.mate_search.specs.Wins.{win}
use Rattle.mate_search.proofs.principal_variation.longest_defence.Given as goal

-- none so far
abbrev pub invariant-loop-r : goal.invariant-loop-r
invariant-loop-r g l = record {
  found : find (λ r. not (win l.j (after_setup l.position r))) l.r-iterator
      ≡ find (λ r. not (win l.j (after_setup l.position r))) (legal_moves l.position);
  legal : list_all (is_legal l.position) l.r-iterator ≡ true;
  room : l.memo.room ≡ l.fn.memo.room;
}

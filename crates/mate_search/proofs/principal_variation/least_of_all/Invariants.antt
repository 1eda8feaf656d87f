use Rattle.std.proofs.Common.{◌≡◌, ◌-◌, true, find}
use Rattle.std.specs.List.{list_all}
use Rattle.chess_board.specs.Legality.{is_legal}
use Rattle.chess_moves.specs.inside.Listing.{legal_moves}
use Rattle.mate_search.specs.Wins.{leaves_lost}
use Rattle.mate_search.proofs.principal_variation.least_of_all.Given as goal

-- none so far
abbrev pub invariant-loop-m : goal.invariant-loop-m
invariant-loop-m g l = record {
  found : find (leaves_lost (l.n - 1) l.position) l.m-iterator ≡ find (leaves_lost (l.n - 1) l.position) (legal_moves l.position);
  legal : list_all (is_legal l.position) l.m-iterator ≡ true;
  room : l.memo.room ≡ l.fn.memo.room;
}

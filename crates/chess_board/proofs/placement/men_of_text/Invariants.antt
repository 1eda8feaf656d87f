use Rattle.std.proofs.Common.{◌≡◌, ◌*◌, ◌≤◌, length, take, replicate, None}
use Rattle.chess_board.proofs.PlacementReading.{IsReadDownTo}
use Rattle.chess_board.proofs.placement.men_of_text.Given as goal

abbrev pub invariant-loop-rank : goal.invariant-loop-rank
invariant-loop-rank l = record {
  so_far : IsReadDownTo l.rank l.text l.men l.rest;
  long : length l.men ≡ 64;
  least : 1 ≤ l.rank;
  free : take (8 * l.rank) l.men ≡ replicate (8 * l.rank) None;
}

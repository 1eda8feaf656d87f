use Rattle.std.proofs.Common.{◌≡◌, ◌≤◌, ◌+◌, ◌++◌, length, drop}
use Rattle.chess_board.specs.Placement.{rank_text_after, rank_text}
use Rattle.chess_board.proofs.placement.push_rank.Given as goal

abbrev pub invariant-loop-place : goal.invariant-loop-place
invariant-loop-place l = record {
  text : l.text.bytes ++ rank_text_after l.empty (drop l.place-index l.places) ≡ l.fn.text.bytes ++ rank_text l.places;
  room : length l.text.bytes + l.empty ≤ length l.fn.text.bytes + l.place-index;
  run : l.empty ≤ l.place-index;
}

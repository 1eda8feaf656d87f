use Rattle.std.proofs.Common.{◌≡◌, ◌≤◌, ◌+◌, ◌-◌, ◌*◌, ◌++◌, length, drop}
use Rattle.std.specs.List.{join_with_byte}
use Rattle.chess_board.proofs.RankTexts.{rank_texts}
use Rattle.chess_board.proofs.placement.push_placement.Given as goal

abbrev pub invariant-loop-rank : goal.invariant-loop-rank
invariant-loop-rank l = record {
  text : l.text.bytes ≡ l.fn.text.bytes ++ join_with_byte 47 (rank_texts (8 - l.rank) (drop (8 * l.rank) l.men));
  short : length l.text.bytes + 9 * l.rank ≤ length l.fn.text.bytes + 71;
}

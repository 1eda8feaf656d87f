use Rattle.std.proofs.Common.{◌≡◌, ◌≤◌, filter, length, map, take}
use Rattle.chess_board.specs.Moves.{move_text}
use Rattle.uci_commands.specs.Marks.{says}
use Rattle.uci_commands.proofs.move_searches.searched_moves.Given as goal

abbrev pub invariant-loop-m : goal.invariant-loop-m
invariant-loop-m l = record {
  kept : l.moves.items ≡ filter (λ m. says (move_text m) (map (λ s. s.now) l.said)) (take l.m-index l.m-items);
  few : length l.moves.items ≤ l.m-index;
}

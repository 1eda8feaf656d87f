use Rattle.std.proofs.Common.{◌≡◌, ◌≤◌, take, map, filter, length}
use Rattle.std.specs.List.{list_any}
use Rattle.chess_notation.specs.Words.{words_in}
use Rattle.chess_notation.specs.Opcodes.{same_text}
use Rattle.chess_notation.specs.AvoidMoves.{without_suffix}
use Rattle.chess_notation.proofs.claims.moves_claimed.Given as goal

abbrev pub invariant-loop-name : goal.invariant-loop-name
invariant-loop-name l = record {
  moves : l.moves.items ≡ map (λ n. n.m) (filter (λ n. list_any (λ word. same_text (without_suffix word) n.text.bytes) (words_in l.words)) (take l.name-index l.names));
  few : length l.moves.items ≤ l.name-index;
}

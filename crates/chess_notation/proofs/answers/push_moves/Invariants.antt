use Rattle.std.proofs.Common.{◌≡◌, ◌++◌, drop, string_bytes}
use Rattle.chess_moves.specs.Laws.{IsLine}
use Rattle.chess_notation.specs.Answers.{operand_words, line_texts}
use Rattle.chess_notation.proofs.answers.push_moves.Given as goal

abbrev pub invariant-loop-m : goal.invariant-loop-m
invariant-loop-m l = record {
  legal : IsLine l.now (drop l.m-index l.moves);
  printed : string_bytes l.fn.text ++ operand_words (line_texts l.position l.moves) ≡ string_bytes l.text
      ++ operand_words (line_texts l.now (drop l.m-index l.moves));
}

use Rattle.std.proofs.Common.{◌≡◌, ◌++◌, drop, map, string_bytes}
use Rattle.chess_notation.specs.Answers.{operand_words}
use Rattle.chess_notation.proofs.answers.push_words.Given as goal

abbrev pub invariant-loop-word : goal.invariant-loop-word
invariant-loop-word l =
    string_bytes l.fn.text ++ operand_words (map (λ t. t.bytes) l.words) ≡ string_bytes l.text
    ++ operand_words (map (λ t. t.bytes) (drop l.word-index l.words))

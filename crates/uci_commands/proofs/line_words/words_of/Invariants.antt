use Rattle.std.proofs.Common.{◌≡◌, ◌++◌, filter, length, map}
use Rattle.chess_notation.specs.Words.{words_in}
use Rattle.uci_commands.specs.inside.LineWords.{is_some_word, parts_of}
use Rattle.uci_commands.proofs.line_words.words_of.Given as goal

abbrev pub invariant-loop-word : goal.invariant-loop-word
invariant-loop-word l = map (λ s. s.now) l.words.items ++ filter is_some_word (parts_of l.rest) ≡ words_in l.line

abbrev pub decreases-loop-word : goal.decreases-loop-word
decreases-loop-word l = length l.rest

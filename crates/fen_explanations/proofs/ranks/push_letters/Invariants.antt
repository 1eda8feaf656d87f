use Rattle.std.proofs.Common.{◌≡◌, ◌++◌, ◌+◌, ◌*◌, codes}
use Rattle.chess_board.specs.Fields.{square_text}
use Rattle.fen_explanations.specs.Placements.{letter_at}
use Rattle.fen_explanations.specs.Ranks.{letter_told}
use Rattle.fen_explanations.specs.Sentences.{each_below}
use Rattle.fen_explanations.proofs.ranks.push_letters.Given as goal

abbrev pub invariant-loop-file : goal.invariant-loop-file
invariant-loop-file l =
    l.text.items ≡ l.fn.text.items
    ++ each_below l.file (λ file. letter_told (codes "at") (square_text (8 * l.rank + file)) (letter_at l.squares file))

use Rattle.std.proofs.Common.{◌≡◌, ◌++◌, ◌∷◌, drop, flat_map, map}
use Rattle.chess_board.specs.Characters.{char}
use Rattle.json_replies.specs.Strings.{string}
use Rattle.json_replies.proofs.rows.strings_of.Given as goal

abbrev pub invariant-loop-word : goal.invariant-loop-word
invariant-loop-word l = flat_map (λ word. char "," ∷ string word) (map (λ w. w.now) l.words)
    ≡ l.text.items ++ flat_map (λ word. char "," ∷ string word) (map (λ w. w.now) (drop l.word-index l.words))

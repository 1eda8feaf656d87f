use Rattle.std.proofs.Common.{◌≡◌, ◌++◌, ◌+◌, ◌*◌, map}
use Rattle.fen_explanations.specs.Men.{pawn_told}
use Rattle.fen_explanations.specs.Sentences.{each_below}
use Rattle.fen_explanations.proofs.men.push_each_pawn.Given as goal

abbrev pub invariant-loop-file : goal.invariant-loop-file
invariant-loop-file l =
    l.text.items ≡ l.fn.text.items ++ each_below l.file (λ file. pawn_told (map (λ r. r.now) l.ranks) (8 * l.rank + file))

use Rattle.std.proofs.Common.{◌≡◌, ◌∷◌, ◌++◌, flat_map, map, take}
use Rattle.fen_explanations.proofs.asked.push_spaced.Given as goal

abbrev pub invariant-loop-word : goal.invariant-loop-word
invariant-loop-word l = l.text.items ≡ l.fn.text.items ++ flat_map (λ next. 32 ∷ next) (map (λ w. w.now) (take l.word-index l.words))

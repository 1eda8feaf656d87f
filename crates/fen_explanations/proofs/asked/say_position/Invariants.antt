use Rattle.std.proofs.Common.{◌≡◌, drop, map}
use Rattle.fen_explanations.specs.Asked.{say_position}
use Rattle.fen_explanations.proofs.asked.say_position.Given as goal

abbrev pub invariant-loop-word : goal.invariant-loop-word
invariant-loop-word l = say_position (map (λ w. w.now) (drop l.word-index l.words)) ≡ say_position (map (λ w. w.now) l.words)

use Rattle.std.proofs.Common.{◌≡◌, map}
use Rattle.fen_explanations.specs.Placements.{letter_on, listed, man_said}
use Rattle.fen_explanations.proofs.placements.men_in.Given as goal

abbrev pub invariant-loop-number : goal.invariant-loop-number
invariant-loop-number l = l.men.items ≡ listed (λ square. man_said (letter_on (map (λ r. r.now) l.ranks) square)) l.number

use Rattle.std.proofs.Common.{◌≡◌, ◌++◌, ◌-◌, map}
use Rattle.fen_explanations.specs.Placements.{rank_in}
use Rattle.fen_explanations.specs.Ranks.{rank_told}
use Rattle.fen_explanations.specs.Sentences.{each_below}
use Rattle.fen_explanations.proofs.ranks.push_eight_ranks.Given as goal

abbrev pub invariant-loop-number : goal.invariant-loop-number
invariant-loop-number l =
    l.text.items ≡ l.fn.text.items ++ each_below l.number (λ n. rank_told (7 - n) (rank_in (map (λ r. r.now) l.ranks) (7 - n)))

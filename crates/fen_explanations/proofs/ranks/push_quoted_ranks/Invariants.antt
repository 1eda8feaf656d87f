use Rattle.std.proofs.Common.{◌≡◌, ◌++◌, flat_map, map, take}
use Rattle.fen_explanations.specs.Ranks.{quoted_rank_told}
use Rattle.fen_explanations.proofs.ranks.push_quoted_ranks.Given as goal

abbrev pub invariant-loop-rank : goal.invariant-loop-rank
invariant-loop-rank l = l.text.items ≡ l.fn.text.items ++ flat_map quoted_rank_told (map (λ r. r.now) (take l.rank-index l.ranks))

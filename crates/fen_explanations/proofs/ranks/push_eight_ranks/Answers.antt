use Rattle.std.proofs.Common.{◌-◌, map}
use Rattle.fen_explanations.specs.Placements.{rank_in}
use Rattle.fen_explanations.specs.Ranks.{rank_told}
use Rattle.fen_explanations.proofs.EachBelow.{more_told}
use Rattle.fen_explanations.proofs.ranks.push_eight_ranks.Goals as goal

pub loop-number-preserved : goal.loop-number-preserved
loop-number-preserved c =
    rw (c.in_ok-push_rank.ensures, c.rank_in.ensures) (more_told c.args.text.now.items c.loop-number.text.items
    (λ n. rank_told (7 - n) (rank_in (map (λ r. r.now) c.args.ranks.now) (7 - n))) c.loop-number.number c.loop-number.invariant)

use Rattle.chess_views.proofs.DividedCounts.{division_sums}
use Rattle.chess_views.proofs.counts.division_sums.Goals as goal

pub returns : goal.returns
returns c = division_sums

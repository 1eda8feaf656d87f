use Rattle.mate_search.proofs.principal_variation.+variation.Given as goal
use Rattle.std.proofs.Common.{◌+◌, ◌*◌}

abbrev pub decreases-push_variation : goal.decreases-push_variation
decreases-push_variation g l = 2 * l.n

abbrev pub decreases-push_next : goal.decreases-push_next
decreases-push_next g l = 2 * l.n + 1

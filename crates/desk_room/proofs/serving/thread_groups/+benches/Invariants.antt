use Rattle.std.proofs.Common.{◌+◌, ◌*◌, vec_len}
use Rattle.desk_room.proofs.serving.thread_groups.+benches.Given as goal

abbrev pub decreases-run_benches : goal.decreases-run_benches
decreases-run_benches g l = 4 * vec_len l.benches

abbrev pub decreases-run_beside-scope-others : goal.decreases-run_beside-scope-others
decreases-run_beside-scope-others g l = 4 * vec_len l.benches + 1

abbrev pub decreases-run_beside-scope : goal.decreases-run_beside-scope
decreases-run_beside-scope g l = 4 * vec_len l.benches + 2

abbrev pub decreases-run_beside : goal.decreases-run_beside
decreases-run_beside g l = 4 * vec_len l.benches + 3

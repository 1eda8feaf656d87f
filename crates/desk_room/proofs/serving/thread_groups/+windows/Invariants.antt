use Rattle.std.proofs.Common.{◌+◌, ◌*◌, vec_len}
use Rattle.desk_room.proofs.serving.thread_groups.+windows.Given as goal

abbrev pub decreases-run_windows : goal.decreases-run_windows
decreases-run_windows g l = 3 * vec_len l.windows

abbrev pub decreases-scope-others : goal.decreases-scope-others
decreases-scope-others g l = 3 * vec_len l.windows + 1

abbrev pub decreases-scope : goal.decreases-scope
decreases-scope g l = 3 * vec_len l.windows + 2

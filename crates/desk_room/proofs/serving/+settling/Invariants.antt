use Rattle.std.proofs.Common.{vec_len}
use Rattle.desk_room.proofs.serving.+settling.Given as goal

abbrev pub decreases-settle_all : goal.decreases-settle_all
decreases-settle_all l = vec_len l.reports

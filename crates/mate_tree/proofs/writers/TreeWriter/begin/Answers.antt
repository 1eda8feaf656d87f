use Rattle.std.proofs.Common.{refl}
use Rattle.mate_tree.proofs.WrittenLines.{begins_by}
use Rattle.mate_tree.proofs.writers.TreeWriter.begin.Goals as goal

pub returns : goal.returns
returns g c = record {
  brings = record { goes = begins_by c.mark-mark.ensures c.add.ensures c.count_line.ensures; stays = record { room = refl; memo = refl; out = refl } };
}

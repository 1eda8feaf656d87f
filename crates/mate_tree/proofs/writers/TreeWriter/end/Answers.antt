use Rattle.std.proofs.Common.{refl}
use Rattle.mate_tree.proofs.WrittenLines.{ends_by}
use Rattle.mate_tree.proofs.writers.TreeWriter.end.Goals as goal

pub returns : goal.returns
returns g c = record { brings = record { goes = ends_by c.ending-ending.ensures c.add.ensures; stays = record { room = refl; memo = refl; out = refl } } }

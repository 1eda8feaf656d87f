use Rattle.mate_tree.proofs.AddedLines.{text_more}
use Rattle.mate_tree.proofs.threats.push_threat.Goals as goal

pub returns-in-Mate : goal.returns-in-Mate
returns-in-Mate g c = rw (c.in-Mate.is, ← c.as_slice.ensures.value) (text_more c.push.ensures c.push_attacks.ensures)

use Rattle.mate_tree.proofs.AddedLines.{adds_line, adds_none, text_more}
use Rattle.mate_tree.proofs.set_play.write_set_line.Goals as goal

pub returns-in-Mate : goal.returns-in-Mate
returns-in-Mate g c =
    rw (c.in-Mate.is, ← c.as_slice.ensures.value, ← c.after.ensures)
    (adds_line c.begin.ensures (text_more (text_more c.push.ensures c.push_defence.ensures) c.push_attacks.ensures) c.end.ensures)

pub returns-in-NoMate : goal.returns-in-NoMate
returns-in-NoMate g c = rw (c.in-NoMate.is) (adds_none c.args.writer.now)

use Rattle.mate_tree.proofs.AddedLines.{adds_line, text_more}
use Rattle.mate_tree.proofs.defences.write_defence_line.Goals as goal

pub returns : goal.returns
returns g c =
    adds_line c.begin.ensures (text_more (text_more c.push_spaces.ensures c.push_defence.ensures) c.push_dual.ensures) c.end.ensures

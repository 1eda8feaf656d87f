use Rattle.mate_tree.proofs.AddedLines.{adds_line, text_more}
use Rattle.mate_tree.proofs.defences.write_attack_line.Goals as goal

pub returns : goal.returns
returns g c =
    adds_line c.begin.ensures (text_more (text_more c.push_spaces.ensures c.push_attack.ensures) c.push_length.ensures) c.end.ensures

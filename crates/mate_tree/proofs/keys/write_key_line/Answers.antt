use Rattle.std.proofs.Common.{◌-◌, ap}
use Rattle.mate_tree.specs.Threats.{idea_text}
use Rattle.mate_tree.proofs.AddedLines.{adds_line, text_as, text_more}
use Rattle.mate_tree.proofs.keys.write_key_line.Goals as goal

pub returns : goal.returns
returns g c =
    let idea = text_as (ap (idea_text 2 (c.args.at.left - 1)) c.after.ensures) c.push_idea.ensures in
    adds_line c.begin.ensures (text_more (text_more (text_more c.push_attack.ensures c.push.ensures) idea) c.push_length.ensures) c.end.ensures

use Rattle.std.proofs.Common.{rules, refl}
use Rattle.mate_tree.proofs.WrittenLines.{breaks_in_front}
use Rattle.mate_tree.proofs.sheets.Sheet.flush_lines.Goals as goal

pub returns-in-Err : goal.returns-in-Err
returns-in-Err g c =
    breaks_in_front c.in-Err.stop c.split_at.result.0.now c.split_at.result.1.now (search rules) (search rules) refl (search rules) (search rules)

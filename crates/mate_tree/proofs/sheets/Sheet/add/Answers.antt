use Rattle.std.proofs.Common.{rules}
use Rattle.mate_tree.proofs.WrittenLines.{takes_on}
use Rattle.mate_tree.proofs.sheets.Sheet.add.Goals as goal

pub returns-then-is_err : goal.returns-then-is_err
returns-then-is_err g c = takes_on (search rules) c.flush_lines.ensures c.add_to_line.ensures

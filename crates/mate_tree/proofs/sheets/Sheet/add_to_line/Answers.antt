use Rattle.std.proofs.Common.{rules}
use Rattle.mate_tree.proofs.WrittenLines.{takes_on}
use Rattle.mate_tree.proofs.sheets.Sheet.add_to_line.Goals as goal

pub returns-in-Err : goal.returns-in-Err
returns-in-Err g c = takes_on (search rules) c.flush.ensures.takes c.put_behind.ensures

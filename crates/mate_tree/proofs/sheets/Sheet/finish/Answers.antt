use Rattle.std.proofs.Common.{rules}
use Rattle.mate_tree.proofs.WrittenLines.{ends_broken, ends_whole, takes_last}
use Rattle.mate_tree.proofs.sheets.Sheet.finish.Goals as goal

pub returns-in-Some-clause-err : goal.returns-in-Some-clause-err
returns-in-Some-clause-err g c = ends_broken c.in-Some.stop (takes_last c.add.ensures c.flush.ensures.takes) (search rules)

pub returns-clause-ok : goal.returns-clause-ok
returns-clause-ok g c = ends_whole (takes_last c.add.ensures c.flush.ensures.takes) (search rules) (c.flush.ensures.empty (search rules))

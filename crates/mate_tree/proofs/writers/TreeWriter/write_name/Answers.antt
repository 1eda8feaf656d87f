use Rattle.mate_tree.proofs.AddedLines.{adds_line, adds_none}
use Rattle.mate_tree.proofs.writers.TreeWriter.write_name.Goals as goal

pub returns-then-is_open : goal.returns-then-is_open
returns-then-is_open g c = rw (c.if-is_open.true) (adds_none c.args.self.now)

pub returns-then-has : goal.returns-then-has
returns-then-has g c = rw (c.if-is_open.false, c.if-has.true) (adds_line c.begin.ensures c.push.ensures c.end.ensures)

pub returns-else-has : goal.returns-else-has
returns-else-has g c = rw (c.if-is_open.false, c.if-has.false) (adds_none c.args.self.now)

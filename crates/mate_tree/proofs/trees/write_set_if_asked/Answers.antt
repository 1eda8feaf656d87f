use Rattle.mate_tree.proofs.AddedLines.{adds_none}
use Rattle.mate_tree.proofs.trees.write_set_if_asked.Goals as goal

pub returns-else-form : goal.returns-else-form
returns-else-form g c = rw (c.if-form.false) (adds_none c.args.writer.now)

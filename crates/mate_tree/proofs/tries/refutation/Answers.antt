use Rattle.mate_tree.proofs.AddedLines.{adds_asked, adds_none}
use Rattle.mate_tree.proofs.tries.refutation.Goals as goal

pub returns-then-is_among-clause-nothing : goal.returns-then-is_among-clause-nothing
returns-then-is_among-clause-nothing g c = adds_none c.args.writer.now

pub returns-clause-nothing : goal.returns-clause-nothing
returns-clause-nothing g c = adds_asked c.args.writer.now c.sole_refutation.new.memo c.sole_refutation.ensures.room (adds_none _)

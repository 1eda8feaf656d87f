use Rattle.std.proofs.lemmas.List.{replicate_more}
use Rattle.mate_tree.proofs.AddedLines.{text_as, text_more, text_none}
use Rattle.mate_tree.proofs.lines.push_spaces.Goals as goal

pub loop-done-init : goal.loop-done-init
loop-done-init g c = text_none c.args.writer.now

pub loop-done-preserved : goal.loop-done-preserved
loop-done-preserved g c = text_as (replicate_more c.loop-done.done 32) (text_more c.loop-done.invariant c.push.ensures)

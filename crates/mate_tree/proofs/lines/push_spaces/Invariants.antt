use Rattle.mate_tree.specs.Lines.{spaces}
use Rattle.mate_tree.specs.inside.Writers.{AddsText}
use Rattle.mate_tree.proofs.lines.push_spaces.Given as goal

abbrev pub invariant-loop-done : goal.invariant-loop-done
invariant-loop-done g l = AddsText g.O.Write.contents l.initial.writer l.writer (spaces l.done)

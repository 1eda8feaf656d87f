use Rattle.mate_tree.specs.Keys.{lines_of_key}
use Rattle.mate_tree.proofs.AddedLines.{SomeLines}
use Rattle.mate_tree.proofs.keys.write_keys.Given as goal

-- the keys so far
abbrev pub invariant-loop-index : goal.invariant-loop-index
invariant-loop-index g l =
    SomeLines g.O.Write.contents l.initial.writer l.writer (lines_of_key l.alone l.at.shown l.at.left l.position) l.keys l.index

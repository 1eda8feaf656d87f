use Rattle.mate_tree.specs.SetPlay.{set_line_within}
use Rattle.mate_tree.proofs.AddedLines.{SomeHeaded}
use Rattle.mate_tree.proofs.set_play.write_set_lines.Given as goal

-- the moves so far
abbrev pub invariant-loop-r : goal.invariant-loop-r
invariant-loop-r g l = SomeHeaded g.O.Write.contents l.initial.writer l.writer l.heading (set_line_within l.left l.position) l.r-items l.r-index l.is_open

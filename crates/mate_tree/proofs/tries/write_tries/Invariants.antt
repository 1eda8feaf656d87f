use Rattle.mate_tree.specs.Tries.{try_lines}
use Rattle.mate_tree.proofs.AddedLines.{SomeHeaded}
use Rattle.mate_tree.proofs.tries.write_tries.Given as goal

-- the moves so far
abbrev pub invariant-loop-m : goal.invariant-loop-m
invariant-loop-m g l = SomeHeaded g.O.Write.contents l.initial.writer l.writer l.heading (try_lines l.left l.position l.avoid) l.m-items l.m-index l.is_open

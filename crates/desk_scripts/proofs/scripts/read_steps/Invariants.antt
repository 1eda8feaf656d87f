use Rattle.std.proofs.Common.{map, length}
use Rattle.desk_scripts.specs.Scripts.{step_value}
use Rattle.desk_scripts.proofs.ScriptLaws.{AreReadTo}
use Rattle.desk_scripts.proofs.scripts.read_steps.Given as goal

abbrev pub invariant-loop-line : goal.invariant-loop-line
invariant-loop-line l = AreReadTo l.initial.lines l.lines (map step_value l.steps.items)

abbrev pub decreases-loop-line : goal.decreases-loop-line
decreases-loop-line l = length l.lines

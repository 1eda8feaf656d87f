use Rattle.std.proofs.Common.{◌≡◌, ◌++◌}
use Rattle.problem_sheets.specs.Diagrams.{each_below, shape_at}
use Rattle.problem_sheets.proofs.diagrams.push_shapes.Given as goal

abbrev pub invariant-loop-number : goal.invariant-loop-number
invariant-loop-number l = l.text.items ≡ l.fn.text.items ++ each_below l.number (shape_at l.from l.position.men)

use Rattle.std.proofs.Common.{◌≡◌, ◌++◌}
use Rattle.problem_sheets.specs.Diagrams.{each_below, name_at}
use Rattle.problem_sheets.proofs.diagrams.push_names.Given as goal

abbrev pub invariant-loop-number : goal.invariant-loop-number
invariant-loop-number l = l.text.items ≡ l.fn.text.items ++ each_below l.number (name_at l.colour l.position.men)

use Rattle.std.proofs.Common.{◌≡◌, ◌++◌, length, true}
use Rattle.problem_import.specs.Changes.{all_changes, listed}
use Rattle.problem_import.specs.inside.KeptChanges.{has_change}
use Rattle.problem_import.proofs.changes.Changes.push_names.Given as goal

abbrev pub invariant-loop-rest : goal.invariant-loop-rest
invariant-loop-rest l =
    l.text.items ++ listed (has_change l.self) l.is_first l.rest ≡ l.fn.text.items ++ listed (has_change l.self) true all_changes

abbrev pub decreases-loop-rest : goal.decreases-loop-rest
decreases-loop-rest l = length l.rest

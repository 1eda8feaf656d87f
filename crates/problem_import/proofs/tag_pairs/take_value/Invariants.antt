use Rattle.std.proofs.Common.{◌≡◌, ◌++◌, drop, false}
use Rattle.problem_import.specs.Sources.{value_from}
use Rattle.problem_import.proofs.tag_pairs.take_value.Given as goal

abbrev pub invariant-loop-index : goal.invariant-loop-index
invariant-loop-index l = l.value.items ++ value_from l.is_escaped (drop l.index l.text) ≡ l.initial.value.items ++ value_from false l.text

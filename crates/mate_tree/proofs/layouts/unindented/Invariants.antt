use Rattle.std.proofs.Common.{◌≡◌, drop}
use Rattle.mate_tree.specs.Layouts.{unindented}
use Rattle.mate_tree.proofs.layouts.unindented.Given as goal

-- spaces so far
abbrev pub invariant-loop-index : goal.invariant-loop-index
invariant-loop-index l = unindented (drop l.index l.text) ≡ unindented l.text

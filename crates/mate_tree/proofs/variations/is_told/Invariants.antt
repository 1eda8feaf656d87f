use Rattle.std.proofs.Common.{◌≡◌, false, take}
use Rattle.std.specs.List.{list_any}
use Rattle.mate_tree.specs.Variations.{follows}
use Rattle.mate_tree.proofs.variations.is_told.Given as goal

-- Reply s follows none of those so far.
abbrev pub invariant-loop-index : goal.invariant-loop-index
invariant-loop-index l = list_any (λ r. follows l.position r l.s) (take l.index l.replies) ≡ false

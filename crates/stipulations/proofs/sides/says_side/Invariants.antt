use Rattle.std.proofs.Common.{◌≡◌, length}
use Rattle.std.specs.List.{list_any}
use Rattle.stipulations.specs.Parts.{parts_of}
use Rattle.stipulations.specs.Sides.{is_of_side}
use Rattle.stipulations.proofs.sides.says_side.Given as goal

abbrev pub invariant-loop-rest : goal.invariant-loop-rest
invariant-loop-rest l = list_any (is_of_side l.side) (parts_of l.rest) ≡ list_any (is_of_side l.side) (parts_of l.text)

abbrev pub decreases-loop-rest : goal.decreases-loop-rest
decreases-loop-rest l = length l.rest

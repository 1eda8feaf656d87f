use Rattle.std.proofs.Common.{◌≡◌, ◌++◌, take, drop}
use Rattle.stipulations.specs.OtherNumbers.{is_inside}
use Rattle.stipulations.specs.Patterns.{run}
use Rattle.stipulations.proofs.other_numbers.first_word.Given as goal

abbrev pub invariant-loop-index : goal.invariant-loop-index
invariant-loop-index l = take l.index l.text ++ run is_inside (drop l.index l.text) ≡ run is_inside l.text

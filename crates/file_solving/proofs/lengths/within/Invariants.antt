use Rattle.std.proofs.Common.{◌≡◌, take}
use Rattle.file_solving.proofs.lengths.within.Given as goal

abbrev pub invariant-loop-m : goal.invariant-loop-m
invariant-loop-m l = l.avoid.items ≡ take l.m-index l.m-items

use Rattle.std.proofs.Common.{◌≡◌, take}
use Rattle.uci_commands.proofs.move_searches.within.Given as goal

abbrev pub invariant-loop-m : goal.invariant-loop-m
invariant-loop-m l = l.avoid.items ≡ take l.m-index l.m-items

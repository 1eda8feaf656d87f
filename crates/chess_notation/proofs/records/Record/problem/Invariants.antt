use Rattle.std.proofs.Common.{◌≡◌, take}
use Rattle.chess_notation.proofs.records.Record.problem.Given as goal

abbrev pub invariant-loop-m : goal.invariant-loop-m
invariant-loop-m l = l.avoid.items ≡ take l.m-index l.m-items

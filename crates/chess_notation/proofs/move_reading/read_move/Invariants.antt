use Rattle.std.proofs.Common.{◌≡◌, take, find, None}
use Rattle.chess_notation.specs.MoveReading.{tells}
use Rattle.chess_notation.proofs.move_reading.read_move.Given as goal

-- none so far
abbrev pub invariant-loop-m : goal.invariant-loop-m
invariant-loop-m l = find (tells l.position l.word) (take l.m-index l.m-items) ≡ None

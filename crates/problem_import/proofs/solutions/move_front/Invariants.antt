use Rattle.std.proofs.Common.{◌≡◌, ◌++◌, take, drop}
use Rattle.problem_import.specs.Solutions.{front_of, is_move_byte}
use Rattle.problem_import.proofs.solutions.move_front.Given as goal

abbrev pub invariant-loop-index : goal.invariant-loop-index
invariant-loop-index l = take l.index l.word ++ front_of is_move_byte (drop l.index l.word) ≡ front_of is_move_byte l.word

use Rattle.std.proofs.Common.{◌≡◌, length}
use Rattle.chess_notation.specs.Opcodes.{comes_before}
use Rattle.chess_notation.proofs.opcodes.comes_before.Given as goal

abbrev pub invariant-loop-right : goal.invariant-loop-right
invariant-loop-right l = comes_before l.left l.right ≡ comes_before l.text l.other

abbrev pub decreases-loop-right : goal.decreases-loop-right
decreases-loop-right l = length l.right

use Rattle.std.proofs.Common.{◌≡◌, length}
use Rattle.chess_notation.specs.Opcodes.{same_text}
use Rattle.chess_notation.proofs.opcodes.is_same_text.Given as goal

abbrev pub invariant-loop-left : goal.invariant-loop-left
invariant-loop-left l = same_text l.left l.right ≡ same_text l.text l.other

abbrev pub decreases-loop-left : goal.decreases-loop-left
decreases-loop-left l = length l.left

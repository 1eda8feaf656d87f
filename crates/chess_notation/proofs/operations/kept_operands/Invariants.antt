use Rattle.std.proofs.Common.{◌≡◌, drop}
use Rattle.chess_notation.specs.Opcodes.{operands_under}
use Rattle.chess_notation.proofs.operations.kept_operands.Given as goal

abbrev pub invariant-loop-operation : goal.invariant-loop-operation
invariant-loop-operation l = operands_under l.opcode (drop l.operation-index l.operations) ≡ operands_under l.opcode l.operations

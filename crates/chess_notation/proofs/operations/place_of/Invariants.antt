use Rattle.std.proofs.Common.{◌≡◌, ◌++◌, take, drop}
use Rattle.chess_notation.specs.Operations.{Entry}
use Rattle.chess_notation.specs.Opcodes.{with_entry}
use Rattle.chess_notation.proofs.operations.place_of.Given as goal

abbrev pub invariant-loop-index : goal.invariant-loop-index
invariant-loop-index l = (entry : Entry) → entry.opcode ≡ l.opcode
    → with_entry entry l.operations ≡ take l.index l.operations ++ with_entry entry (drop l.index l.operations)

use Rattle.std.proofs.Common.{◌≡◌, ◌++◌, drop, string_bytes}
use Rattle.chess_notation.specs.Answers.{entries_text}
use Rattle.chess_notation.proofs.answers.push_operations.Given as goal

abbrev pub invariant-loop-operation : goal.invariant-loop-operation
invariant-loop-operation l = string_bytes l.fn.text ++ entries_text l.operations ≡ string_bytes l.text
    ++ entries_text (drop l.operation-index l.operations)

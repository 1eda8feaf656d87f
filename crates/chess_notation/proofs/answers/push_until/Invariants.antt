use Rattle.std.proofs.Common.{◌≡◌, ◌++◌, ◌∷◌, List, drop, string_bytes}
use Rattle.chess_notation.specs.Operations.{Entry}
use Rattle.chess_notation.specs.Opcodes.{IsBelow}
use Rattle.chess_notation.specs.inside.Merging.{with_entries}
use Rattle.chess_notation.specs.Answers.{entries_text}
use Rattle.chess_notation.proofs.answers.push_until.Given as goal

abbrev pub invariant-loop-index : goal.invariant-loop-index
invariant-loop-index l =
    (own : Entry) (owns : List Entry) → own.opcode ≡ l.opcode → IsBelow l.opcode owns
    → string_bytes l.fn.text ++ entries_text (with_entries (own ∷ owns) l.operations) ≡ string_bytes l.text
    ++ entries_text (with_entries (own ∷ owns) (drop l.index l.operations))

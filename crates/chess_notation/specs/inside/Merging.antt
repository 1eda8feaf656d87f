-- Not for believing: entries put at their places one after the other, the last of them first, a step of the proofs. What an
-- answer's text is stands in Answers.antt.
use Rattle.std.specs.Prelude.{List, [], ◌∷◌}
use Rattle.chess_notation.specs.Operations.{Entry}
use Rattle.chess_notation.specs.Opcodes.{with_entry}

abbrev pub with_entries : List Entry → List Entry → List Entry
with_entries [] entries = entries
with_entries (own ∷ owns) entries = with_entry own (with_entries owns entries)

-- Whether a line says itself within how many moves mate is asked for, by `dm` (PGN Specification, section 16.2.5).
use Rattle.std.specs.Prelude.{ℕ, List, [], ◌∷◌, codes, Bool, true, false, if◌then◌else◌}
use Rattle.chess_notation.specs.Words.{word_at}
use Rattle.chess_notation.specs.Opcodes.{same_text}
use Rattle.chess_notation.specs.RecordFields.{cut_of}

abbrev pub is_bound : List ℕ → Bool
is_bound opcode = same_text (codes "dm") opcode

-- an operation among these is `dm`
unfoldable pub says_bound_in : List (List ℕ) → Bool
says_bound_in [] = false
says_bound_in (segment ∷ segments) = if is_bound (word_at segment) then true else says_bound_in segments

unfoldable pub says_bound : List ℕ → Bool
says_bound line = says_bound_in (cut_of line).ended

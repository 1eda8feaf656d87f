-- The first word of a line of play, `pv` (PGN Specification, section 16.2.5).
use Rattle.std.specs.Prelude.{ℕ, List, [], ◌∷◌, codes, Bool, if◌then◌else◌}
use Rattle.chess_notation.specs.Words.{word_at, behind}
use Rattle.chess_notation.specs.Opcodes.{same_text}
use Rattle.chess_notation.specs.RecordFields.{cut_of}

abbrev pub is_play : List ℕ → Bool
is_play opcode = same_text (codes "pv") opcode

-- the first word behind `pv`, or nothing
unfoldable pub play_word_in : List (List ℕ) → List ℕ
play_word_in [] = []
play_word_in (segment ∷ segments) = if is_play (word_at segment) then word_at (behind segment) else play_word_in segments

unfoldable pub play_word : List ℕ → List ℕ
play_word line = play_word_in (cut_of line).ended

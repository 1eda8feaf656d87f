-- The FEN that a line says: of a position with its counters, or without them and with operations behind it or none (own to this project).
use Rattle.std.specs.Prelude.{◌≡◌, ◌++◌, ℕ, Bool, false, List, [], ◌∷◌, codes, if◌then◌else◌}
use Rattle.chess_board.specs.Fens.{FenValue, Fields, Spells}
use Rattle.chess_notation.specs.Operations.{is_digit}
use Rattle.chess_notation.specs.RecordFields.{behind_fields, fourth_word, line_fields}
use Rattle.chess_notation.specs.Words.{behind, is_empty_text, word_at}

abbrev pub begins_with_digit : List ℕ → Bool
begins_with_digit [] = false
begins_with_digit (b ∷ bs) = is_digit b

-- a word and the space behind it
abbrev pub spaced : List ℕ → List ℕ
spaced word = word ++ codes " "

-- four fields and the counters behind them, with a space between each two
abbrev pub with_counters : Fields → List ℕ → List ℕ
with_counters f counters = spaced f.placement ++ spaced f.side ++ spaced f.castling ++ spaced f.target ++ counters

-- the two words behind the fields, where the first of them begins with a digit, as a counter does and no opcode; else 0 and 1
unfoldable pub counters_text : List ℕ → List ℕ
counters_text text = if begins_with_digit (word_at text) then spaced (word_at text) ++ word_at (behind text) else codes "0 1"

-- the four fields that a line begins with, and two counters; nothing where there are fewer fields
unfoldable pub line_fen : List ℕ → List ℕ
line_fen line = if is_empty_text (fourth_word line) then [] else with_counters (line_fields line) (counters_text (behind_fields line))

-- A FEN says itself.
abbrev pub FensRead : Type 0
FensRead = (text : List ℕ) (f : FenValue) → Spells text f → line_fen text ≡ text

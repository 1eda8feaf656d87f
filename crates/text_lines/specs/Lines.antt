-- The lines of a text (own to this project).
use Rattle.std.specs.Prelude.{ℕ, ◌-◌, ◌==◌, List, length, map, take, slice_index, if◌then◌else◌}
use Rattle.std.specs.List.{slice_split}
use Rattle.chess_board.specs.Characters.{char}

-- the lines of an input: what stands between its newlines
abbrev pub lines_of : List ℕ → List (List ℕ)
lines_of input = slice_split (λ b. b == char "\n") input

-- a line without one CR at its end
abbrev pub without_cr : List ℕ → List ℕ
without_cr line = if slice_index line (length line - 1) == char "\r" then take (length line - 1) line else line

-- the lines of an input, each without its CR
abbrev pub texts_of : List ℕ → List (List ℕ)
texts_of input = map without_cr (lines_of input)

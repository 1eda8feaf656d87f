-- Not for believing: how the words of a line are taken apart. It comes to `words_in`.
use Rattle.std.specs.Prelude.{ℕ, ◌==◌, Bool, List, not}
use Rattle.std.specs.List.{slice_split}
use Rattle.chess_notation.specs.Words.{is_empty_text}

-- what stands between the spaces of a text
abbrev pub parts_of : List ℕ → List (List ℕ)
parts_of text = slice_split (λ b. b == 32) text

abbrev pub is_some_word : List ℕ → Bool
is_some_word word = not (is_empty_text word)

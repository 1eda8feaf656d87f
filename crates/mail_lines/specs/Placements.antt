-- How a position begins: with its men, and with who moves (PGN Specification, sections 16.1.3.1 and 16.1.3.2). Own to this project: men may have
-- the letters of any language.
use Rattle.std.specs.Prelude.{ℕ, ◌==◌, ◌&&◌, ◌||◌, nat_le, nat_lt, List, [], ◌∷◌, Bool, false, count_by}
use Rattle.std.specs.Char.{is_ascii_alphabetic}
use Rattle.std.specs.List.{list_all, list_any, slice_split}
use Rattle.chess_board.specs.Characters.{char}
use Rattle.chess_notation.specs.Words.{behind, word_at}

abbrev pub is_stroke : ℕ → Bool
is_stroke b = b == char "/"

-- how many squares are empty
abbrev pub is_count : ℕ → Bool
is_count b = nat_le (char "1") b && nat_le b (char "8")

-- A byte of a placement. One that isn't ASCII is of a letter of another language.
abbrev pub is_of_placement : ℕ → Bool
is_of_placement b = is_stroke b || is_count b || is_ascii_alphabetic b || nat_le 128 b

-- The word is a placement, as far as can be seen: it has exactly seven strokes, and letters and counts between them.
unfoldable pub is_placement : List ℕ → Bool
is_placement word = (count_by is_stroke word == 7) && list_all is_of_placement word

-- The word is like one, of whatever ranks: it has five strokes at least.
unfoldable pub is_like_placement : List ℕ → Bool
is_like_placement word = nat_lt 4 (count_by is_stroke word) && list_all is_of_placement word

-- The word is a side to move.
abbrev pub is_side : List ℕ → Bool
is_side [] = false
is_side (b ∷ []) = (b == char "w") || (b == char "b")
is_side (b ∷ c ∷ bs) = false

-- The text begins a position: its first word is a placement, the second a side.
unfoldable pub begins_position : List ℕ → Bool
begins_position text = is_placement (word_at text) && is_side (word_at (behind text))

-- One of the words of a text, cut at its spaces, is such a one.
unfoldable pub has_word : (List ℕ → Bool) → List ℕ → Bool
has_word is_one text = list_any is_one (slice_split (λ b. b == char " ") text)

-- One of the parts of a word, cut at its tabs, is such a one.
unfoldable pub has_part : (List ℕ → Bool) → List ℕ → Bool
has_part is_one word = list_any is_one (slice_split (λ b. b == char "\t") word)

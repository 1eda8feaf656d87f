-- Which lines are tag pairs of a game (PGN Specification, 8.1.1).
use Rattle.std.specs.Prelude.{◌≡◌, ℕ, ◌==◌, List, [], ◌∷◌, ◌++◌, drop}
use Rattle.std.specs.Prelude.{Bool, false, ◌&&◌, ◌||◌, if◌then◌else◌}
use Rattle.std.specs.List.{list_all}
use Rattle.chess_board.specs.Characters.{char}
use Rattle.chess_notation.specs.Operations.{is_opcode_byte, is_printable}
use Rattle.chess_notation.specs.Words.{after_spaces}
use Rattle.problem_import.specs.Letters.{trimmed}

-- The one text stands at the end of the other.
abbrev pub EndsText : (rest text : List ℕ) → Type 0
EndsText rest text = (front : List ℕ) × (text ≡ front ++ rest)

abbrev pub begins_with : ℕ → List ℕ → Bool
begins_with byte [] = false
begins_with byte (b ∷ bs) = b == byte

-- the text behind a tag's name, of letters, digits and underscores as an opcode's
abbrev pub after_name : List ℕ → List ℕ
after_name [] = []
after_name (b ∷ bs) = if is_opcode_byte b then after_name bs else b ∷ bs

abbrev pub begins_with_name : List ℕ → Bool
begins_with_name [] = false
begins_with_name (b ∷ bs) = is_opcode_byte b

-- Behind a quotation mark the text is no more than a bracket: what stands in the value before, other marks for one, is not looked at.
abbrev pub is_bracket : List ℕ → Bool
is_bracket [] = false
is_bracket (b ∷ []) = b == char "]"
is_bracket (b ∷ c ∷ bs) = false

abbrev pub ends_pair : List ℕ → Bool
ends_pair [] = false
ends_pair (b ∷ bs) = ((b == char "\"") && is_bracket (after_spaces bs)) || ends_pair bs

-- a value in quotation marks, and the bracket that ends the pair
abbrev pub is_value : List ℕ → Bool
is_value text = begins_with (char "\"") text && ends_pair (drop 1 text)

abbrev pub is_named : List ℕ → Bool
is_named text = begins_with_name text && is_value (after_spaces (after_name text))

-- `[Name "value"]`, and nothing else
abbrev pub is_tag_pair : List ℕ → Bool
is_tag_pair text = begins_with (char "[") text && is_named (after_spaces (drop 1 text))

-- The line is printable ASCII, and but for white space at its ends a tag pair.
abbrev pub is_tag_line : List ℕ → Bool
is_tag_line line = list_all is_printable line && is_tag_pair (trimmed line)

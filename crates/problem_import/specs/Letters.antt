-- Lines in ASCII (own to this project).
use Rattle.std.specs.Prelude.{◌≡◌, ℕ, ◌-◌, ◌==◌, List, [], ◌∷◌, ◌++◌, length, take, drop, Bool, true, ◌||◌, Option, Some, None, is_some}
use Rattle.std.specs.Prelude.{if◌then◌else◌}
use Rattle.std.specs.Char.{is_ascii_whitespace}
use Rattle.std.specs.List.{list_all, prefix_len, suffix_len}
use Rattle.chess_board.specs.Characters.{char}
use Rattle.chess_notation.specs.Operations.{is_printable}

-- Printable ASCII stands for itself, a space for a tab and for a CR.
abbrev pub plain_byte : ℕ → Option ℕ
plain_byte b = if is_printable b then Some b else (if (b == char "\t") || (b == char "\r") then Some (char " ") else None)

abbrev pub is_plain_byte : ℕ → Bool
is_plain_byte b = is_some (plain_byte b)

abbrev pub plain_before : Option ℕ → List ℕ → List ℕ
plain_before None more = []
plain_before (Some b) more = b ∷ more

-- what stands for a line up to the first byte that is none of these
abbrev pub plain_front : List ℕ → List ℕ
plain_front [] = []
plain_front (b ∷ bs) = plain_before (plain_byte b) (plain_front bs)

-- The text may stand for the line in ASCII: it begins with that, and is that where there is no other byte.
unfoldable pub IsAscii : (line text : List ℕ) → Type 0
IsAscii line text = (more : List ℕ) × (text ≡ plain_front line ++ more) × (list_all is_plain_byte line ≡ true → more ≡ [])

abbrev pub without_end : List ℕ → List ℕ
without_end text = take (length text - suffix_len is_ascii_whitespace text) text

-- the text without white space at either end
abbrev pub trimmed : List ℕ → List ℕ
trimmed text = without_end (drop (prefix_len is_ascii_whitespace text) text)

-- The text is what the line says: it in ASCII, without white space at its ends.
unfoldable pub IsTextOf : (line text : List ℕ) → Type 0
IsTextOf line text = (ascii : List ℕ) × IsAscii line ascii × (text ≡ trimmed ascii)

-- Strings of JSON (RFC 8259, section 7), and operands as an array of them.
use Rattle.std.specs.Prelude.{ℕ, ◌+◌, ◌-◌, ◌==◌, nat_lt, List, [], ◌∷◌, ◌++◌, codes, drop, flat_map, if◌then◌else◌}
use Rattle.chess_board.specs.Characters.{char}
use Rattle.json_replies.specs.declared.strings.ScanState.{ScanState}
use Rattle.json_replies.specs.declared.strings.ScanState.TheVariants.{Between, Word, Text}

-- of 0 to 15
abbrev pub hex_digit : ℕ → ℕ
hex_digit n = if nat_lt n 10 then char "0" + n else char "a" + (n - 10)

-- a control character, by its code in four hexadecimal digits
abbrev pub control : ℕ → List ℕ
control b = if nat_lt b 16 then codes "\\u000" ++ hex_digit b ∷ [] else codes "\\u001" ++ hex_digit (b - 16) ∷ []

-- a byte of a string: a quotation mark, a backslash and a control character have to be escaped
abbrev pub escaped : ℕ → List ℕ
escaped b =
    if b == char "\"" then codes "\\\""
    else (if b == char "\\" then codes "\\\\" else (if nat_lt b 32 then control b else b ∷ []))

-- the string of a text
unfoldable pub string : List ℕ → List ℕ
string text = char "\"" ∷ (flat_map escaped text ++ char "\"" ∷ [])

-- ---- operands, parted by spaces, of which some stand between quotation marks

-- Where a byte leads to: a string ends at its second quotation mark, and a word at a space.
abbrev pub next_state : ScanState → ℕ → ScanState
next_state Between b = if b == char " " then Between else (if b == char "\"" then Text else Word)
next_state Word b = if b == char " " then Between else Word
next_state Text b = if b == char "\"" then Between else Text

-- what is written of a byte: a comma and a quotation mark before the first of an operand, and a quotation mark where it ends
abbrev pub written : ScanState → ℕ → List ℕ
written Between b = if b == char " " then [] else (if b == char "\"" then codes ",\"" else codes ",\"" ++ escaped b)
written Word b = if b == char " " then codes "\"" else escaped b
written Text b = if b == char "\"" then codes "\"" else escaped b

-- what is written where they end
abbrev pub closed : ScanState → List ℕ
closed Between = []
closed Word = codes "\""
closed Text = codes "\""

abbrev pub strings_from : ScanState → List ℕ → List ℕ
strings_from state [] = closed state
strings_from state (b ∷ bs) = written state b ++ strings_from (next_state state b) bs

-- the strings of operands, each behind a comma
unfoldable pub strings : List ℕ → List ℕ
strings operands = strings_from Between operands

-- the array of operands as strings, a quoted one without its quotation marks
unfoldable pub array : List ℕ → List ℕ
array operands = char "[" ∷ (drop 1 (strings operands) ++ char "]" ∷ [])

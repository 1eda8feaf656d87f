-- Rows of claims as objects of JSON.
use Rattle.std.specs.Prelude.{ℕ, ◌==◌, List, [], ◌∷◌, ◌++◌, Bool, not, codes, drop, flat_map, if◌then◌else◌}
use Rattle.std.specs.List.{slice_split}
use Rattle.chess_board.specs.Characters.{char}
use Rattle.chess_notation.specs.Opcodes.{same_text}
use Rattle.chess_notation.specs.Words.{is_empty_text}
use Rattle.json_replies.specs.Answers.{member, opening}
use Rattle.json_replies.specs.Cuts.{before, from_on}
use Rattle.json_replies.specs.Strings.{string}

-- the field behind so many tabs and one
abbrev pub field_in : ℕ → List ℕ → List ℕ
field_in tabs row = before (char "\t") 0 (drop 1 (from_on (char "\t") tabs row))

-- A hyphen stands in place of nothing.
abbrev pub is_none : List ℕ → Bool
is_none field = same_text (codes "-") field

abbrev pub or_nothing : List ℕ → List ℕ
or_nothing field = if is_none field then [] else field

-- ---- the members of a row's fields

-- the number of moves, behind a number sign: a question mark may follow
abbrev pub number_in : List ℕ → List ℕ
number_in field = before (char "?") 0 (drop 1 field)

abbrev pub truth_text : Bool → List ℕ
truth_text is = if is then codes "true" else codes "false"

-- Such a mark says that the number is the default one.
abbrev pub is_default : List ℕ → Bool
is_default field = not (is_empty_text (from_on (char "?") 0 field))

abbrev pub asked_members : List ℕ → List ℕ
asked_members field = member (codes "asked") (number_in field) ++ member (codes "default") (truth_text (is_default field))

-- A question mark says that it wasn't decided.
abbrev pub is_unknown : List ℕ → Bool
is_unknown field = same_text (codes "?") field

abbrev pub found_member : List ℕ → List ℕ
found_member field =
    if is_none field then []
    else (if is_unknown field then member (codes "decided") (codes "false") else member (codes "found") (number_in field))

abbrev pub words_of : List ℕ → List (List ℕ)
words_of field = if is_none field then [] else slice_split (λ b. b == char " ") field

-- words as an array of strings
unfoldable pub words_array : List (List ℕ) → List ℕ
words_array words = char "[" ∷ (drop 1 (flat_map (λ word. char "," ∷ string word) words) ++ char "]" ∷ [])

unfoldable pub words_member : List ℕ → List ℕ → List ℕ
words_member name field = member name (words_array (words_of field))

-- what is claimed, and by which operation: the line of play is named before its move
abbrev pub claimed_by : List ℕ → List (List ℕ) → List ℕ
claimed_by opcode words = member (codes "claimed") (words_array words) ++ member (codes "claimed_by") (string opcode)

unfoldable pub claimed_members : List (List ℕ) → List ℕ
claimed_members [] = member (codes "claimed") (words_array [])
claimed_members (word ∷ words) =
    if same_text (codes "pv") word then claimed_by (codes "pv") words else claimed_by (codes "bm") (word ∷ words)

-- what is told of a record, which asks for some number of moves
unfoldable pub record_members : List ℕ → List ℕ
record_members row = asked_members (field_in 1 row) ++ found_member (field_in 2 row) ++ words_member (codes "keys") (field_in 3 row)
    ++ claimed_members (words_of (field_in 4 row)) ++ member (codes "id") (string (or_nothing (field_in 5 row)))

-- A line that is no record asks for none.
abbrev pub told_members : List ℕ → List ℕ
told_members row = if is_none (field_in 1 row) then [] else record_members row

-- the object of a row without its newline
unfoldable pub row_object : List ℕ → ℕ → List ℕ → List ℕ
row_object front number row =
    opening front number ++ member (codes "verdict") (string (field_in 0 row)) ++ told_members row ++ codes "}\n"

-- the reply to a line, as `verify` writes it, in JSON
abbrev pub row_json : List ℕ → ℕ → List ℕ → List ℕ
row_json front number reply = row_object front number (before (char "\n") 0 reply)

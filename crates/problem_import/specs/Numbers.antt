-- The number of moves that a line says, and that its record asks (own to this project).
use Rattle.std.specs.Prelude.{ℕ, ◌==◌, min, List, [], ◌∷◌, codes, drop, Bool, true, false, not, ◌&&◌, ◌||◌}
use Rattle.std.specs.Prelude.{Option, Some, None, is_none, if◌then◌else◌}
use Rattle.std.specs.Char.{is_ascii_digit}
use Rattle.std.specs.List.{list_any}
use Rattle.std.specs.Str.{bytes_eq}
use Rattle.chess_board.specs.Characters.{char}
use Rattle.chess_board.specs.Fields.{digits_value}
use Rattle.chess_notation.specs.Claims.{is_length}
use Rattle.chess_notation.specs.RecordFields.{behind_fields, is_number}
use Rattle.chess_notation.specs.Words.{behind, word_at}
use Rattle.stipulations.specs.Stipulations.{asked, asked_by_name, both}
use Rattle.stipulations.specs.declared.asked.Asked.{Asked}
use Rattle.stipulations.specs.declared.asked.Asked.TheVariants.{Nothing, Moves, Two, Unknown}

-- ---- a text cut outside its strings

-- Nothing stands there, or a space or a semicolon.
abbrev pub is_edge : List ℕ → Bool
is_edge [] = true
is_edge (b ∷ bs) = (b == char " ") || (b == char ";")

-- The byte ends a string with such a mark: a double one anywhere, a single one where no more of a word follows.
abbrev pub ends_string : (mark b : ℕ) → List ℕ → Bool
ends_string mark b bs = (b == mark) && ((mark == char "\"") || is_edge bs)

abbrev pub has_end : ℕ → List ℕ → Bool
has_end mark [] = false
has_end mark (b ∷ bs) = ends_string mark b bs || has_end mark bs

-- The byte begins a string: a double mark, or a single one behind a space that another ends.
abbrev pub begins_string : (before b : ℕ) → List ℕ → Bool
begins_string before b bs = (b == char "\"") || ((b == char "'") && ((before == char " ") && has_end b bs))

-- the mark of the string that is open behind the byte, if one is
abbrev pub mark_behind : Option ℕ → (before b : ℕ) → List ℕ → Option ℕ
mark_behind None before b bs = if begins_string before b bs then Some b else None
mark_behind (Some mark) before b bs = if ends_string mark b bs then None else Some mark

abbrev pub ends_part : Option ℕ → (sign b : ℕ) → Bool
ends_part mark sign b = is_none mark && (b == sign)

abbrev pub byte_onto : ℕ → List (List ℕ) → List (List ℕ)
byte_onto b [] = []
byte_onto b (part ∷ parts) = (b ∷ part) ∷ parts

abbrev pub parts_from : (sign : ℕ) → Option ℕ → ℕ → List ℕ → List (List ℕ)
parts_from sign mark before [] = [] ∷ []
parts_from sign mark before (b ∷ bs) =
    if ends_part mark sign b then [] ∷ parts_from sign None (char " ") bs
    else byte_onto b (parts_from sign (mark_behind mark before b bs) b bs)

-- A text cut at each such sign outside strings.
abbrev pub parts_of : ℕ → List ℕ → List (List ℕ)
parts_of sign text = parts_from sign None (char " ") text

-- ---- what an operation says

-- `c0` to `c9`
abbrev pub is_comment : List ℕ → Bool
is_comment (a ∷ b ∷ []) = (a == char "c") && is_ascii_digit b
is_comment _ = false

abbrev pub has_moves : List ℕ → Bool
has_moves opcode = bytes_eq opcode (codes "bm") || (bytes_eq opcode (codes "am") || (bytes_eq opcode (codes "pv")
    || (bytes_eq opcode (codes "pm") || bytes_eq opcode (codes "sm"))))

abbrev pub has_string : List ℕ → Bool
has_string text = list_any (λ b. b == char "\"") text

-- words that are no operation
abbrev pub is_free : List ℕ → Bool
is_free operation = not (has_string operation) && (not (has_moves (word_at operation)) && (not (is_comment (word_at operation))
    && (not (bytes_eq (word_at operation) (codes "dm")) && (not (bytes_eq (word_at operation) (codes "id"))
    && not (bytes_eq (word_at operation) (codes "ce"))))))

-- a sign that stands alone: `#2`
abbrev pub asked_by_sign : List ℕ → Asked
asked_by_sign word = if is_length word then asked word else Nothing

-- what such texts ask together
abbrev pub asked_together : (List ℕ → Asked) → Asked → List (List ℕ) → Asked
asked_together by others [] = others
asked_together by others (text ∷ texts) = asked_together by (both others (by text)) texts

-- claimed keys or an evaluation, among which a sign may stand
abbrev pub has_signs : List ℕ → Bool
has_signs opcode = bytes_eq opcode (codes "bm") || bytes_eq opcode (codes "ce")

-- an operation whose text asks nothing here: moves, the number of `dm`, and names, which `asked_by_id` reads
abbrev pub is_silent : List ℕ → Bool
is_silent opcode = has_moves opcode || (bytes_eq opcode (codes "dm") || bytes_eq opcode (codes "id"))

-- by a sign among the operands of `bm` or `ce`, a comment, or the whole text of another operation, its strings too
abbrev pub asked_by : List ℕ → Asked
asked_by operation =
    if has_signs (word_at operation) then asked_together asked_by_sign Nothing (parts_of (char " ") (behind operation))
    else (if is_comment (word_at operation) then asked (behind operation)
    else (if is_silent (word_at operation) then Nothing else asked operation))

abbrev pub asked_by_id : List ℕ → Asked
asked_by_id operation = if bytes_eq (word_at operation) (codes "id") then asked_by_name (behind operation) else Nothing

-- the number of `dm N` or `dm #N`; above 15 it is 16, which no record asks
abbrev pub bound_of_word : List ℕ → ℕ
bound_of_word word = min (digits_value (if is_length word then drop 1 word else word)) 16

-- the number of the first `dm`
abbrev pub bound_among : List (List ℕ) → Option ℕ
bound_among [] = None
bound_among (operation ∷ operations) =
    if bytes_eq (word_at operation) (codes "dm") then Some (bound_of_word (word_at (behind operation))) else bound_among operations

-- ---- what a line says

-- A counter is passed over.
abbrev pub behind_number : List ℕ → List ℕ
behind_number text = if is_number (word_at text) then behind text else text

-- what is asked, unless something beside it isn't understood
abbrev pub beside : (aside asked : Asked) → Asked
beside Nothing asked = asked
beside (Moves n) asked = asked
beside Two asked = asked
beside Unknown asked = Unknown

abbrev pub or_by_id : (others by_id : Asked) → Asked
or_by_id Nothing by_id = by_id
or_by_id (Moves n) by_id = beside by_id (Moves n)
or_by_id Two by_id = beside by_id Two
or_by_id Unknown by_id = beside by_id Unknown

-- what is asked beside `dm`, if that is there: nothing, or the same
abbrev pub or_asked : (dm : Option ℕ) → (others by_id : Asked) → Asked
or_asked None others by_id = or_by_id others by_id
or_asked (Some n) others by_id = both others (Moves n)

-- The number of `dm`, with what the other operations say together; where it isn't there what these say; by `id` where they say none.
abbrev pub said_by : List (List ℕ) → Asked
said_by operations =
    or_asked (bound_among operations) (asked_together asked_by Nothing operations) (asked_together asked_by_id Nothing operations)

-- what the text of a line says by its operations, which stand behind its four fields and FEN's counters
unfoldable pub said : List ℕ → Asked
said text = said_by (parts_of (char ";") (behind_number (behind_number (behind_fields text))))

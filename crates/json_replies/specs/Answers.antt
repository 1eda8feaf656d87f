-- Answers to records as objects of JSON (RFC 8259, section 4).
use Rattle.std.specs.Prelude.{ℕ, ◌==◌, List, [], ◌∷◌, ◌++◌, Bool, false, not, ◌&&◌, ◌||◌, codes, decimal, drop, flat_map, if◌then◌else◌}
use Rattle.std.specs.List.{list_any}
use Rattle.chess_board.specs.Characters.{char}
use Rattle.chess_notation.specs.Opcodes.{same_text}
use Rattle.chess_notation.specs.Segments.{segments_of}
use Rattle.chess_notation.specs.Words.{is_empty_text}
use Rattle.json_replies.specs.Cuts.{before, from_on}
use Rattle.json_replies.specs.Strings.{array, string}

-- what an object begins with: where the line stands, if that is asked for, and its number
abbrev pub opening : List ℕ → ℕ → List ℕ
opening front number = front ++ (codes "\"line\":" ++ decimal number)

-- the front of all objects of a file: it names the file where there are several
abbrev pub front_of : Bool → List ℕ → List ℕ
front_of several name = if several then codes "{\"file\":" ++ (string name ++ codes ",") else codes "{"

-- ---- an operation of an answer: a space, its opcode, its operands

abbrev pub opcode_of : List ℕ → List ℕ
opcode_of operation = before (char " ") 0 (drop 1 operation)

abbrev pub operands_of : List ℕ → List ℕ
operands_of operation = from_on (char " ") 0 (drop 1 operation)

abbrev pub are_keys : List ℕ → Bool
are_keys operation = same_text (codes "bm") (opcode_of operation)

-- The keys, the length and the line of play tell of a mate.
abbrev pub tells_mate : List ℕ → Bool
tells_mate opcode = same_text (codes "bm") opcode || (same_text (codes "dm") opcode || same_text (codes "pv") opcode)

-- the value of such an operation: the length is a number
abbrev pub mate_value : List ℕ → List ℕ → List ℕ
mate_value opcode operands = if same_text (codes "dm") opcode then drop 1 operands else array operands

-- the name of a member, behind a comma and before a colon
unfoldable pub named : List ℕ → List ℕ
named name = char "," ∷ (string name ++ char ":" ∷ [])

abbrev pub member : List ℕ → List ℕ → List ℕ
member name value = named name ++ value

-- the member of an operation that tells of a mate, where there is one
abbrev pub mate_member : Bool → List ℕ → List ℕ
mate_member keys operation =
    if keys && tells_mate (opcode_of operation) then member (opcode_of operation) (mate_value (opcode_of operation) (operands_of operation)) else []

-- the member of any other
abbrev pub other_member : Bool → List ℕ → List ℕ
other_member keys operation =
    if keys && tells_mate (opcode_of operation) then [] else member (opcode_of operation) (array (operands_of operation))

-- ---- an answer that was not decided, by its comment: `no mate in K, not decided within N in S s`, or where K is 0 only its second part

-- the word behind so many spaces and one
abbrev pub word_in : ℕ → List ℕ → List ℕ
word_in spaces text = before (char " ") 0 (drop 1 (from_on (char " ") spaces text))

abbrev pub has_comma : List ℕ → Bool
has_comma text = not (is_empty_text (from_on (char ",") 0 text))

-- within how many moves there is known to be no mate, and within how many one was asked for
unfoldable pub undecided_by : List ℕ → List ℕ → List ℕ
undecided_by none asked = member (codes "decided") (codes "false") ++ (member (codes "none_within") none ++ member (codes "asked") asked)

-- what a comment says of it; a comment that there is no mate has no comma
abbrev pub comment_members : List ℕ → List ℕ
comment_members comment =
    if same_text (codes "\"not") (word_in 0 comment) then undecided_by (codes "0") (word_in 3 comment)
    else (if has_comma comment then undecided_by (before (char ",") 0 (word_in 3 comment)) (word_in 7 comment) else [])

abbrev pub undecided_member : List ℕ → List ℕ
undecided_member operation = if same_text (codes "c0") (opcode_of operation) then comment_members (operands_of operation) else []

abbrev pub undecided_members : List (List ℕ) → List ℕ
undecided_members operations = flat_map undecided_member operations

-- ---- objects

-- the operations of an answer
abbrev pub operations_in : List ℕ → List (List ℕ)
operations_in answer = (segments_of (from_on (char " ") 3 answer)).ended

-- the members of operations: those that tell of a mate, if there are keys, and the object of all others
unfoldable pub members_by : Bool → List (List ℕ) → List ℕ
members_by keys operations =
    flat_map (mate_member keys) operations ++ (codes ",\"operations\":{" ++ drop 1 (flat_map (other_member keys) operations))

abbrev pub members : List (List ℕ) → List ℕ
members operations = members_by (list_any are_keys operations) operations

-- the object of an answer up to its last operation: its fields are what stands before the fourth space
unfoldable pub open_answer : List ℕ → ℕ → List ℕ → List ℕ
open_answer front number answer =
    opening front number ++ (codes ",\"fen\":" ++ string (before (char " ") 3 answer)) ++ undecided_members (operations_in answer)
    ++ members (operations_in answer)

abbrev pub answer_object : List ℕ → ℕ → List ℕ → List ℕ
answer_object front number answer = open_answer front number answer ++ codes "}}\n"

-- the name of the fault for which a line is refused: what stands behind the colon
abbrev pub error_in : List ℕ → List ℕ
error_in refusal = drop 2 (from_on (char ":") 0 (before (char "\n") 0 refusal))

unfoldable pub refusal_object : List ℕ → ℕ → List ℕ → List ℕ
refusal_object front number refusal = opening front number ++ (codes ",\"error\":" ++ string (error_in refusal)) ++ codes "}\n"

-- A refusal begins with a number sign, which no field does.
abbrev pub is_refusal : List ℕ → Bool
is_refusal [] = false
is_refusal (b ∷ bs) = b == char "#"

-- the reply to a line, as `solve` writes it, in JSON
abbrev pub answer_json : List ℕ → ℕ → List ℕ → List ℕ
answer_json front number reply = if is_refusal reply then refusal_object front number reply else answer_object front number reply

-- The text that answers a record: its four fields, then operations in ASCII order of opcode (PGN Specification, sections 16.2.4
-- and 16.2.5). Own to this project: that there is no mate is said in `c0`.
use Rattle.std.specs.Prelude.{ℕ, zero, suc, List, [], ◌∷◌, ◌++◌, Bool, codes, map, decimal, if◌then◌else◌}
use Rattle.chess_board.specs.Characters.{char}
use Rattle.chess_board.specs.Positions.{Setup}
use Rattle.chess_board.specs.Fens.{position_text}
use Rattle.chess_board.specs.Moves.{Move}
use Rattle.chess_board.specs.MakeMove.{after_setup}
use Rattle.chess_problems.specs.declared.outcomes.Outcome.{Outcome}
use Rattle.chess_problems.specs.declared.outcomes.Outcome.TheVariants.{Mate, NoMate}
use Rattle.chess_notation.specs.SanText.{san_text}
use Rattle.chess_notation.specs.Operations.{Entry}
use Rattle.chess_notation.specs.Opcodes.{comes_before, with_entry}
use Rattle.chess_notation.specs.Records.{RecordValue}

-- an operation: a space, the opcode, its operands with one space before each, a semicolon
abbrev pub entry_text : Entry → List ℕ
entry_text entry = (char " " ∷ (entry.opcode ++ entry.operands)) ++ char ";" ∷ []

abbrev pub entries_text : List Entry → List ℕ
entries_text [] = []
entries_text (entry ∷ entries) = entry_text entry ++ entries_text entries

-- the texts in ASCII order
abbrev pub with_text : List ℕ → List (List ℕ) → List (List ℕ)
with_text text [] = text ∷ []
with_text text (next ∷ texts) = if comes_before text next then text ∷ next ∷ texts else next ∷ with_text text texts

abbrev pub in_order : List (List ℕ) → List (List ℕ)
in_order [] = []
in_order (text ∷ texts) = with_text text (in_order texts)

-- the texts with one space before each
abbrev pub operand_words : List (List ℕ) → List ℕ
operand_words [] = []
operand_words (text ∷ texts) = char " " ∷ (text ++ operand_words texts)

-- the moves of a line, each in SAN of the position where it is played
abbrev pub line_texts : Setup → List Move → List (List ℕ)
line_texts p [] = []
line_texts p (m ∷ ms) = san_text p m ∷ line_texts (after_setup p m) ms

-- the keys, `bm`; the length of the mate, `dm`; the line of play, `pv`; and the comment that there is none, `c0`
abbrev pub keys_entry : Setup → List Move → Entry
keys_entry p keys = record { opcode = codes "bm"; operands = operand_words (in_order (map (san_text p) keys)) }

abbrev pub length_entry : ℕ → Entry
length_entry n = record { opcode = codes "dm"; operands = operand_words (decimal n ∷ []) }

abbrev pub line_entry : Setup → List Move → Entry
line_entry p moves = record { opcode = codes "pv"; operands = operand_words (line_texts p moves) }

abbrev pub comment_entry : List ℕ → ℕ → List ℕ → Entry
comment_entry front n back =
    record { opcode = codes "c0"; operands = operand_words ((char "\"" ∷ (front ++ (decimal n ++ (back ++ codes "\"")))) ∷ []) }

abbrev pub none_entry : ℕ → Entry
none_entry bound = comment_entry (codes "no mate in ") bound []

-- what is known of the moves within which there is no mate; nothing of none
abbrev pub none_so_far : ℕ → List ℕ
none_so_far zero = []
none_so_far (suc n) = codes "no mate in " ++ (decimal (suc n) ++ codes ", ")

abbrev pub undecided_front : ℕ → ℕ → List ℕ
undecided_front none bound = none_so_far none ++ (codes "not decided within " ++ (decimal bound ++ codes " in "))

abbrev pub undecided_entry : ℕ → ℕ → ℕ → Entry
undecided_entry none bound seconds = comment_entry (undecided_front none bound) seconds (codes " s")

-- the operations of an answer: those that the record keeps, and those of the outcome, each at its place
abbrev pub answer_entries : RecordValue → Outcome → List Entry
answer_entries r (Mate dm keys pv) = with_entry (keys_entry r.position keys.items)
    (with_entry (length_entry dm) (with_entry (line_entry r.position pv.items) r.rest))
answer_entries r NoMate = with_entry (none_entry r.bound) r.rest

unfoldable pub answer_text : RecordValue → Outcome → List ℕ
answer_text r outcome = position_text r.position ++ entries_text (answer_entries r outcome)

-- the operations of a record, and the bound where its line says it: a default is not the record's own
abbrev pub asked_entries : Bool → RecordValue → List Entry
asked_entries said r = if said then with_entry (length_entry r.bound) r.rest else r.rest

-- the answer to a record whose line says its bound or not, and whose problem was not decided in so many seconds, but that there is no mate
-- within so many moves: it asks what the record asked
unfoldable pub undecided_text : Bool → RecordValue → ℕ → ℕ → List ℕ
undecided_text said r none seconds =
    position_text r.position ++ entries_text (with_entry (undecided_entry none r.bound seconds) (asked_entries said r))

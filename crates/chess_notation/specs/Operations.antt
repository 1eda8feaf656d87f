-- How an operation of a record is put together (PGN Specification, section 16.2.4). Own to this project: an opcode has at most
-- 15 bytes, a string at most 255, and each operation ends with its semicolon.
use Rattle.std.specs.Prelude.{◌≡◌, ◌≢◌, ℕ, ◌≤◌, ◌==◌, nat_le, true, false, Bool, ◌&&◌, ◌||◌, List, [], ◌∷◌, ◌++◌, length, replicate}
use Rattle.std.specs.List.{list_all}
use Rattle.chess_board.specs.Characters.{char}

abbrev pub is_in_range : ℕ → ℕ → ℕ → Bool
is_in_range low high b = nat_le low b && nat_le b high

abbrev pub is_digit : ℕ → Bool
is_digit b = is_in_range (char "0") (char "9") b

abbrev pub is_letter : ℕ → Bool
is_letter b = is_in_range (char "a") (char "z") b || is_in_range (char "A") (char "Z") b

abbrev pub is_opcode_byte : ℕ → Bool
is_opcode_byte b = is_letter b || is_digit b || (b == char "_")

-- an ASCII byte that is no control
abbrev pub is_printable : ℕ → Bool
is_printable b = is_in_range (char " ") (char "~") b

-- a letter followed by up to fourteen letters, digits and underscores
abbrev pub is_opcode : List ℕ → Bool
is_opcode [] = false
is_opcode (b ∷ bs) = is_letter b && (nat_le (length bs) 14 && list_all is_opcode_byte bs)

-- a plain operand, or a string
pub data Operand : Type 0 where
  Word : List ℕ → Operand
  Text : List ℕ → Operand

-- A string stands between two quotation marks.
abbrev pub operand_text : Operand → List ℕ
operand_text (Word word) = word
operand_text (Text text) = char "\"" ∷ (text ++ char "\"" ∷ [])

-- bytes other than space, quotation mark and semicolon
abbrev pub AreWordBytes : List ℕ → Type 0
AreWordBytes [] = Unit {0}
AreWordBytes (b ∷ bs) = (b ≢ char " ") × (b ≢ char "\"") × (b ≢ char ";") × AreWordBytes bs

abbrev pub HaveNoQuote : List ℕ → Type 0
HaveNoQuote [] = Unit {0}
HaveNoQuote (b ∷ bs) = (b ≢ char "\"") × HaveNoQuote bs

abbrev pub IsOperand : Operand → Type 0
IsOperand (Word word) = (word ≢ []) × AreWordBytes word
IsOperand (Text text) = (length text ≤ 255) × HaveNoQuote text

-- one or more spaces
abbrev pub spaces : ℕ → List ℕ
spaces more = char " " ∷ replicate more (char " ")

-- Operands, each after one or more spaces; spaces may follow.
abbrev pub SpellsOperands : List ℕ → List Operand → Type 0
SpellsOperands text [] = (n : ℕ) × (text ≡ replicate n (char " "))
SpellsOperands text (operand ∷ operands) = (more : ℕ) × (rest : List ℕ) × (text ≡ spaces more ++ (operand_text operand ++ rest))
    × IsOperand operand × SpellsOperands rest operands

pub record Operation : Type 0 where
  pub opcode : List ℕ
  pub operands : List Operand

-- A segment is an opcode and its operands; spaces may stand before it.
abbrev pub SpellsOperation : List ℕ → Operation → Type 0
SpellsOperation segment operation = (n : ℕ) × (rest : List ℕ) × (segment ≡ replicate n (char " ") ++ (operation.opcode ++ rest))
    × (is_opcode operation.opcode ≡ true) × SpellsOperands rest operation.operands

-- Operations, each ended by a semicolon; spaces may follow.
abbrev pub SpellsOperations : List ℕ → List Operation → Type 0
SpellsOperations text [] = (n : ℕ) × (text ≡ replicate n (char " "))
SpellsOperations text (operation ∷ operations) = (segment : List ℕ) × (rest : List ℕ) × (text ≡ segment ++ char ";" ∷ rest)
    × SpellsOperation segment operation × SpellsOperations rest operations

-- the operands with one space before each
abbrev pub operands_text : List Operand → List ℕ
operands_text [] = []
operands_text (operand ∷ operands) = char " " ∷ (operand_text operand ++ operands_text operands)

-- an operation as a record keeps it
pub record Entry : Type 0 where
  pub opcode : List ℕ
  pub operands : List ℕ  -- each after one space

abbrev pub entry_of : Operation → Entry
entry_of operation = record { opcode = operation.opcode; operands = operands_text operation.operands }

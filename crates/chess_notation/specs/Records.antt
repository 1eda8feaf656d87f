-- EPD records (PGN Specification, section 16.2): what a line says. Own to this project: a line has at most 1,023 printable ASCII
-- bytes, runs of spaces outside strings are read as one, FEN's two counters may stand behind the four fields and are dropped,
-- no opcode stands twice, the bound is that of `dm`, from 1 to 15, and each operand of `am` names a legal move.
use Rattle.std.specs.Prelude.{◌≡◌, ◌≢◌, ◌⊎◌, ◌↔◌, ℕ, ◌≤◌, true, false, List, [], ◌∷◌, ◌++◌, length, map, replicate, codes, Contains}
use Rattle.std.specs.List.{list_all}
use Rattle.chess_board.specs.Characters.{char}
use Rattle.chess_board.specs.Positions.{Setup}
use Rattle.chess_board.specs.Soundness.{IsSound}
use Rattle.chess_board.specs.Fields.{IsCounter, digits_value}
use Rattle.chess_board.specs.Fens.{Fields, SpellsSetup}
use Rattle.chess_board.specs.Moves.{Move}
use Rattle.chess_notation.specs.Operations.{Operation, Entry, entry_of, SpellsOperations, is_digit, is_printable}
use Rattle.chess_notation.specs.Operations.Operand.{Word}
use Rattle.chess_notation.specs.Opcodes.{is_own, RisesByOpcode}
use Rattle.chess_notation.specs.AvoidMoves.{is_name, named}
use Rattle.chess_problems.specs.Problems.{ProblemValue, max_bound}

-- The most bytes of a record's line.
abbrev pub max_line : ℕ
max_line = 1023

-- what a record says: a position, the bound within which mate is asked for, the first moves to avoid, and the other operations
pub record RecordValue : Type 0 where
  pub position : Setup
  pub bound : ℕ
  pub avoid : List Move
  pub rest : List Entry

-- the problem that it asks
abbrev pub problem_of : RecordValue → ProblemValue
problem_of r = record { position = r.position; bound = r.bound; avoid = r.avoid }

-- bytes other than space
abbrev pub HaveNoSpace : List ℕ → Type 0
HaveNoSpace [] = Unit {0}
HaveNoSpace (b ∷ bs) = (b ≢ char " ") × HaveNoSpace bs

abbrev pub IsWord : List ℕ → Type 0
IsWord word = (word ≢ []) × HaveNoSpace word

-- empty, or from a space on: what follows a word
abbrev pub IsApart : List ℕ → Type 0
IsApart [] = Unit {0}
IsApart (b ∷ bs) = b ≡ char " "

-- Words, each after spaces or none, and what follows the last.
abbrev pub SpellsWords : (List ℕ → Type 0) → List ℕ → List (List ℕ) → List ℕ → Type 0
SpellsWords IsOne text [] tail = text ≡ tail
SpellsWords IsOne text (word ∷ words) tail = (n : ℕ) × (rest : List ℕ) × (text ≡ replicate n (char " ") ++ (word ++ rest)) × IsOne word × IsApart rest
    × SpellsWords IsOne rest words tail

abbrev pub field_words : Fields → List (List ℕ)
field_words f = f.placement ∷ f.side ∷ f.castling ∷ f.target ∷ []

-- Operations stand behind the fields, or behind FEN's two counters.
abbrev pub SpellsRest : List ℕ → List Operation → Type 0
SpellsRest text operations = SpellsOperations text operations
    ⊎ ((halfmove : List ℕ) × (fullmove : List ℕ) × (tail : List ℕ)
    × SpellsWords IsCounter text (halfmove ∷ fullmove ∷ []) tail × SpellsOperations tail operations)

-- Each opcode stands once.
abbrev pub AreOnce : List Operation → Type 0
AreOnce [] = Unit {0}
AreOnce (operation ∷ operations) = ((other : Operation) → Contains operations other → other.opcode ≢ operation.opcode) × AreOnce operations

abbrev pub dm_of : List ℕ → Operation
dm_of word = record { opcode = codes "dm"; operands = Word word ∷ [] }

-- The bound is that of `dm`, whose one operand is a plain one of decimal digits.
abbrev pub IsAskedBound : List Operation → ℕ → Type 0
IsAskedBound operations bound = (word : List ℕ) × Contains operations (dm_of word) × (list_all is_digit word ≡ true)
    × (bound ≡ digits_value word) × (1 ≤ bound) × (bound ≤ max_bound)

-- Where there is no `dm`, it is the default one.
abbrev pub IsBoundOf : List Operation → ℕ → ℕ → Type 0
IsBoundOf operations default bound =
    (((operation : Operation) → Contains operations operation → operation.opcode ≢ codes "dm") × (bound ≡ default)) ⊎ IsAskedBound operations bound

abbrev pub am_of : List (List ℕ) → Operation
am_of words = record { opcode = codes "am"; operands = map Word words }

-- To avoid are the moves that the operands of `am` name: plain ones, at least one, each of which names a legal move.
abbrev pub AreAskedToAvoid : Setup → List Operation → List Move → Type 0
AreAskedToAvoid p operations avoid = (words : List (List ℕ)) × Contains operations (am_of words) × (words ≢ [])
    × (list_all (is_name p) words ≡ true) × (avoid ≡ named p words)

-- Where there is no `am`, there is none.
abbrev pub AreToAvoid : Setup → List Operation → List Move → Type 0
AreToAvoid p operations avoid =
    (((operation : Operation) → Contains operations operation → operation.opcode ≢ codes "am") × (avoid ≡ [])) ⊎ AreAskedToAvoid p operations avoid

-- Kept are the operations that an answer does not write itself.
abbrev pub IsKeptOf : List Operation → Entry → Type 0
IsKeptOf operations entry = (operation : Operation) × Contains operations operation × (is_own operation.opcode ≡ false) × (entry ≡ entry_of operation)

-- The record keeps exactly these, rising by opcode.
abbrev pub IsRestOf : List Operation → List Entry → Type 0
IsRestOf operations rest = RisesByOpcode rest × ((entry : Entry) → Contains rest entry ↔ IsKeptOf operations entry)

-- The line says the record, with this bound where it asks for none itself.
pub record Reads (line : List ℕ) (default : ℕ) (r : RecordValue) : Type 0 where
  pub short : length line ≤ max_line
  pub printable : list_all is_printable line ≡ true
  pub fields : Fields
  pub tail : List ℕ
  pub operations : List Operation
  pub words : SpellsWords IsWord line (field_words fields) tail
  pub position : SpellsSetup fields r.position
  pub sound : IsSound r.position
  pub spelt : SpellsRest tail operations
  pub once : AreOnce operations
  pub bound : IsBoundOf operations default r.bound
  pub avoid : AreToAvoid r.position operations r.avoid
  pub kept : IsRestOf operations r.rest

-- What `import` prints (own to this project).
use Rattle.std.specs.Prelude.{◌≡◌, ◌≢◌, ◌⊎◌, ℕ, ◌+◌, List, [], ◌∷◌, ◌++◌, codes, decimal, map, Contains}
use Rattle.std.specs.Prelude.{Bool, true, false, ◌||◌, if◌then◌else◌, Option, Some}
use Rattle.chess_board.specs.Characters.{char}
use Rattle.chess_board.specs.Fens.{SpellsSetup}
use Rattle.chess_notation.specs.Words.{is_blank}
use Rattle.chess_notation.specs.RecordFields.{line_fields}
use Rattle.chess_notation.specs.Records.{RecordValue, Reads}
use Rattle.chess_notation.specs.EpdFaults.{epd_fault_name}
use Rattle.text_lines.specs.Lines.{lines_of, without_cr}
use Rattle.move_words.specs.Languages.{is_english}
use Rattle.move_words.specs.declared.languages.Letters.{Letters}
use Rattle.text_lines.specs.Replies.{IsReply, IsReplyToFirst}
use Rattle.problem_import.specs.Changes.{IsAny, IsChanged, telling}
use Rattle.problem_import.specs.Letters.{IsTextOf}
use Rattle.problem_import.specs.Mendable.{has_clear_claims, has_nothing_to_mend}
use Rattle.problem_import.specs.Numbers.{said}
use Rattle.stipulations.specs.declared.asked.Asked.{Asked}
use Rattle.stipulations.specs.declared.asked.Asked.TheVariants.{Nothing, Moves, Two, Unknown}
use Rattle.problem_import.specs.declared.changes.Change.{Change}
use Rattle.problem_import.specs.declared.changes.Change.TheVariants.{Pgn, Popeye}
use Rattle.problem_import.specs.declared.import_faults.ImportFault.{ImportFault}
use Rattle.problem_import.specs.declared.import_faults.ImportFault.TheVariants.{Record, NoFen, TwoFens, NoBound, TwoBounds, BadStipulation}
use Rattle.problem_import.specs.declared.import_faults.ImportFault.TheVariants.{WrongSide, OtherMen, FairyCondition, FairyPiece, UnknownCommand}

-- A fault prints as its name; that of a record as the record's.
abbrev pub import_fault_name : ImportFault → List ℕ
import_fault_name (Record fault) = epd_fault_name fault
import_fault_name NoFen = codes "NoFen"
import_fault_name TwoFens = codes "TwoFens"
import_fault_name NoBound = codes "NoBound"
import_fault_name TwoBounds = codes "TwoBounds"
import_fault_name BadStipulation = codes "BadStipulation"
import_fault_name WrongSide = codes "WrongSide"
import_fault_name OtherMen = codes "OtherMen"
import_fault_name FairyCondition = codes "FairyCondition"
import_fault_name FairyPiece = codes "FairyPiece"
import_fault_name UnknownCommand = codes "UnknownCommand"

-- what is printed of a problem that can't be read, by the number of its first line and its fault
abbrev pub refused_line : ℕ → ImportFault → List ℕ
refused_line number fault = codes "# line " ++ decimal number ++ codes ": " ++ import_fault_name fault ++ char "\n" ∷ []

-- The line is a record by the grammar, whose bound is 3 where it asks for none itself.
abbrev pub IsRecord : List ℕ → Type 0
IsRecord line = (r : RecordValue) × Reads line 3 r

-- Lines of which each is a record of this kind, or refuses a problem; and whether one refuses.
pub data AreImported (IsKind : List ℕ → Type 0) : List ℕ → Bool → Type 0 where
  none : AreImported IsKind [] false
  printed : (line more : List ℕ) (any : Bool) → IsRecord line → IsKind line → AreImported IsKind more any
      → AreImported IsKind (line ++ char "\n" ∷ more) any
  refused : (number : ℕ) (fault : ImportFault) (more : List ℕ) (any : Bool) → AreImported IsKind more any
      → AreImported IsKind (refused_line number fault ++ more) true

-- The record has the position that the first four words of what the line says spell.
abbrev pub HasPositionOf : (line made : List ℕ) → Type 0
HasPositionOf line made = (text : List ℕ) × IsTextOf line text × ((r : RecordValue) → Reads made 3 r → SpellsSetup (line_fields text) r.position)

-- How many moves a record asks that is made of a line which says this: as many as it says. Where it says none, it is a record as it stands,
-- and what is made of it asks for none itself; or it is none, and so many are given (`--bound`).
abbrev pub IsNumber : (given : Option ℕ) → (line : List ℕ) → Asked → ℕ → Type 0
IsNumber given line (Moves m) n = n ≡ m
IsNumber given line Nothing n = (IsRecord line × (n ≡ 3)) ⊎ ((¬ (IsRecord line)) × (given ≡ Some n))
IsNumber given line Two n = ⊥
IsNumber given line Unknown n = ⊥

-- The record asks for the number of moves that what the line says does.
abbrev pub HasNumberOf : Option ℕ → (line made : List ℕ) → Type 0
HasNumberOf given line made = (text : List ℕ) × IsTextOf line text × ((r : RecordValue) → Reads made 3 r
    → IsNumber given line (said text) r.bound)

-- The record is the problem that the line says.
abbrev pub IsOfLine : Option ℕ → (line made : List ℕ) → Type 0
IsOfLine given line made = HasPositionOf line made × HasNumberOf given line made

-- Unless it was made of a game or of a problem for Popeye, which was open before the line, the record is the line's.
abbrev pub KeepsProblem : Option ℕ → (line made : List ℕ) → (Change → Bool) → Type 0
KeepsProblem given line made has = (has Pgn || has Popeye) ≡ false → IsOfLine given line made

-- What may be printed where a line is read, or none, which is empty: the line as it stands; without `keep` what was made; with `keep` that
-- and what was changed, unless it would be no record then.
pub data IsMade (keep : Bool) (given : Option ℕ) (line : List ℕ) : List ℕ → Type 0 where
  unchanged : IsMade keep given line line
  plain : (made : List ℕ) (has : Change → Bool) → keep ≡ false → KeepsProblem given line made has → IsMade keep given line made
  told : (made : List ℕ) (has : Change → Bool) → keep ≡ true → IsRecord made → IsChanged line made has
      → KeepsProblem given line (made ++ telling has) has → IsMade keep given line (made ++ telling has)
  untold : (made : List ℕ) (has : Change → Bool) → keep ≡ true → IsChanged line made has → KeepsProblem given line made has
      → ¬ (IsRecord (made ++ telling has)) → IsMade keep given line made

-- The line is a record, and there is nothing to mend, no move that it claims either.
abbrev pub IsClean : List ℕ → Type 0
IsClean line = (has_nothing_to_mend line ≡ true) × ((r : RecordValue) × Reads line 3 r × (has_clear_claims r.position line ≡ true))

abbrev pub EndsWithLine : List ℕ → List ℕ → Type 0
EndsWithLine line text = (before : List ℕ) × (text ≡ before ++ line ++ char "\n" ∷ [])

abbrev pub one_if : Bool → ℕ
one_if any = if any then 1 else 0

-- What is printed once a line is read, and how many refusals it counts for: nothing of a blank one; else what it ends, and itself where it
-- is clean and men have English letters in moves. No record is lost.
pub data IsImportReply (moves : Letters) (keep : Bool) (given : Option ℕ) (number : ℕ) (line : List ℕ) : List ℕ → ℕ → Type 0 where
  skipped : is_blank line ≡ true → IsImportReply moves keep given number line [] 0
  read : (text : List ℕ) (any : Bool) → is_blank line ≡ false → AreImported (IsMade keep given line) text any
      → (is_english moves ≡ true → IsClean line → EndsWithLine line text) → (IsRecord line → text ≢ [])
      → IsImportReply moves keep given number line text (one_if any)

-- What an input is imported as, where men have such letters in moves, and so many moves are given or none: the replies to its lines, and what
-- its end ends.
unfoldable pub IsImport : (moves : Letters) → Bool → Option ℕ → List ℕ → List ℕ → ℕ → Type 0
IsImport moves keep given input text count = (replies : List ℕ) × (refusals : ℕ) × (last : List ℕ) × (any : Bool)
    × IsReply (IsImportReply moves keep given) input replies refusals × AreImported (IsMade keep given []) last any
    × (text ≡ replies ++ last) × (count ≡ refusals + one_if any)

-- What there is to print where that stops.
unfoldable pub IsImportOfFirst : (moves : Letters) → Bool → Option ℕ → List ℕ → List ℕ → Type 0
IsImportOfFirst moves keep given input text = (replies : List ℕ) × (last : List ℕ) × (any : Bool)
    × IsReplyToFirst (IsImportReply moves keep given) input replies × AreImported (IsMade keep given []) last any × (text ≡ replies ++ last)

-- The record tells what was changed, or would be none if it did.
abbrev pub IsTold : List ℕ → Type 0
IsTold line = (made : List ℕ) × (has : Change → Bool) × IsAny has × ((line ≡ made ++ telling has) ⊎ (¬ (IsRecord (line ++ telling has))))

-- With `keep` the record is one of these lines as it stands, or is told.
abbrev pub IsKept : Bool → List (List ℕ) → List ℕ → Type 0
IsKept keep lines line = keep ≡ true → Contains lines line ⊎ IsTold line

-- Whatever was read, what is printed are records and refusals, and no refusal where none is counted. With `keep` each record that doesn't
-- stand in the input is told.
abbrev pub ImportsAreRecords : Type 0
ImportsAreRecords = (moves : Letters) (keep : Bool) (given : Option ℕ) (input text : List ℕ) (count : ℕ)
    → IsImport moves keep given input text count
    → (any : Bool) × AreImported (IsKept keep (map without_cr (lines_of input))) text any × (count ≡ 0 → any ≡ false)

-- The record tells that it was made of a game or of a problem for Popeye, or would be none if it did.
abbrev pub IsToldOther : List ℕ → Type 0
IsToldOther line = (made : List ℕ) × (has : Change → Bool) × ((has Pgn || has Popeye) ≡ true)
    × ((line ≡ made ++ telling has) ⊎ (¬ (IsRecord (line ++ telling has))))

-- With `keep` the record is one of these lines as it stands, or the problem that one says, or is told to be of a game or for Popeye.
abbrev pub IsPlaced : Bool → Option ℕ → List (List ℕ) → List ℕ → Type 0
IsPlaced keep given lines line =
    keep ≡ true → Contains lines line ⊎ (((own : List ℕ) × Contains lines own × IsOfLine given own line) ⊎ IsToldOther line)

-- With `keep` each record that is printed is placed so.
abbrev pub ImportsKeepPositions : Type 0
ImportsKeepPositions = (moves : Letters) (keep : Bool) (given : Option ℕ) (input text : List ℕ) (count : ℕ)
    → IsImport moves keep given input text count
    → (any : Bool) × AreImported (IsPlaced keep given (map without_cr (lines_of input))) text any

-- Not for believing: what is found of a line keeps its position and its number of moves. No contract of a public call rests on it.
use Rattle.std.specs.Prelude.{◌≡◌, ℕ, List, All, Bool, true, false, Option, Some, None}
use Rattle.chess_notation.specs.Records.{RecordValue, Reads}
use Rattle.chess_notation.specs.RecordFields.{line_fields}
use Rattle.problem_import.specs.Imports.{IsNumber, IsRecord}
use Rattle.problem_import.specs.Numbers.{said}
use Rattle.stipulations.specs.declared.asked.Asked.{Asked}
use Rattle.stipulations.specs.declared.asked.Asked.TheVariants as asks
use Rattle.problem_import.specs.Letters.{IsTextOf}
use Rattle.problem_import.specs.declared.changes.Form.{Form}
use Rattle.problem_import.specs.declared.changes.Form.TheVariants.{Line}
use Rattle.problem_import.specs.declared.findings.Finding.{Finding}
use Rattle.problem_import.specs.declared.findings.Found.{Found}
use Rattle.problem_import.specs.declared.findings.Found.TheVariants.{Text, Fault}
use Rattle.problem_import.specs.declared.findings.Number.{Number}
use Rattle.problem_import.specs.declared.findings.Number.TheVariants as number

-- Unless it was made of a game or of a problem for Popeye, the text has the first four words of what the line says.
unfoldable pub IsOwn : Form → (line made : List ℕ) → Type 0
IsOwn form line made = form ≡ Line → (text : List ℕ) × IsTextOf line text × (line_fields made ≡ line_fields text)

-- How many moves a record is to ask that is made of a line which says this.
abbrev pub IsAsked : (line : List ℕ) → Asked → Number → Type 0
IsAsked line asked (number.Said n) = asked ≡ asks.Moves n
IsAsked line asked number.Own = (asked ≡ asks.Nothing) × IsRecord line
IsAsked line asked number.Unsaid = (asked ≡ asks.Nothing) × (¬ (IsRecord line))

-- So many as what the line says does, unless it was made of a game or of a problem for Popeye.
unfoldable pub IsAskedOf : Form → (line : List ℕ) → Number → Type 0
IsAskedOf form line moves = form ≡ Line → (text : List ℕ) × IsTextOf line text × IsAsked line (said text) moves

-- So many, where that is a number.
unfoldable pub IsNumberOf : Form → (given : Option ℕ) → (line : List ℕ) → Option ℕ → Type 0
IsNumberOf form given line moves =
    form ≡ Line → (text : List ℕ) × IsTextOf line text × (n : ℕ) × (moves ≡ Some n) × IsNumber given line (said text) n

-- The text asks so many, if it is a record.
abbrev pub Asks : Option ℕ → List ℕ → Type 0
Asks None text = Unit {0}
Asks (Some n) text = (r : RecordValue) → Reads text 3 r → r.bound ≡ n

-- The line is a record or isn't.
abbrev pub IsRecordIf : Bool → List ℕ → Type 0
IsRecordIf true line = IsRecord line
IsRecordIf false line = ¬ (IsRecord line)

abbrev pub IsFoundOf : List ℕ → Found → Type 0
IsFoundOf line (Text made changes moves) = IsOwn changes.form line made.items × IsAskedOf changes.form line moves
IsFoundOf line (Fault fault) = Unit {0}

unfoldable pub AreFoundOf : List ℕ → List Finding → Type 0
AreFoundOf line findings = All (λ finding. IsFoundOf line finding.found) findings

-- What files hold of a page's contents: problems, and lines that say none.
use Rattle.std.specs.Prelude.{◌≡◌, ℕ, ◌+◌, List, [], ◌∷◌, ◌++◌, codes, decimal, length, nat_lt, Bool, true, false}
use Rattle.chess_notation.specs.declared.epd_faults.EpdFault.{EpdFault}
use Rattle.chess_notation.specs.EpdFaults.{IsFaultOf, epd_fault_name}
use Rattle.chess_notation.specs.Records.{RecordValue, Reads}
use Rattle.chess_notation.specs.SaidBounds.{says_bound}
use Rattle.chess_notation.specs.Words.{is_blank}
use Rattle.text_lines.specs.Lines.{lines_of, without_cr}
use Rattle.problem_sheets.specs.Escaping.{escaped}
use Rattle.problem_sheets.specs.Problems.{PageProblemValue}

-- the problems in their order, and what is said of the lines that are refused
pub record ContentsValue : Type 0 where
  pub problems : List PageProblemValue
  pub refused : List ℕ

abbrev pub no_contents : ContentsValue
no_contents = record { problems = []; refused = [] }

-- a line that is refused, by its file, its number and its fault
abbrev pub refused_text : List ℕ → ℕ → EpdFault → List ℕ
refused_text name number fault = codes "<p>" ++ escaped name ++ codes ":" ++ decimal number ++ codes " " ++ epd_fault_name fault ++ codes "</p>\n"

-- the problem of a line that says such a record
abbrev pub problem_in : List ℕ → RecordValue → PageProblemValue
problem_in line r = record { asked = r; says_bound = says_bound line }

-- What a line of a file adds to the contents before it.
pub data Adds (default : ℕ) (name : List ℕ) (number : ℕ) (line : List ℕ) (before : ContentsValue) : ContentsValue → Type 0 where
  skipped : is_blank line ≡ true → Adds default name number line before before
  refused : (fault : EpdFault) → is_blank line ≡ false → IsFaultOf line fault
      → Adds default name number line before (record before { refused = before.refused ++ refused_text name number fault })
  told : (r : RecordValue) → is_blank line ≡ false → Reads line default r
      → Adds default name number line before (record before { problems = before.problems ++ problem_in line r ∷ [] })

-- what lines of a file add, the first of them numbered so
abbrev pub AddsLines : ℕ → List ℕ → ℕ → List (List ℕ) → ContentsValue → ContentsValue → Type 0
AddsLines default name number [] before after = after ≡ before
AddsLines default name number (line ∷ lines) before after =
    (between : ContentsValue) × Adds default name number (without_cr line) before between × AddsLines default name (number + 1) lines between after

-- what a file adds
unfoldable pub AddsFile : ℕ → List ℕ → List ℕ → ContentsValue → ContentsValue → Type 0
AddsFile default name input before after = AddsLines default name 1 (lines_of input) before after

-- what files add, one after the other
abbrev pub AddsFiles : ℕ → (names inputs : List (List ℕ)) → ContentsValue → ContentsValue → Type 0
AddsFiles default [] [] before after = after ≡ before
AddsFiles default (name ∷ names) (input ∷ inputs) before after =
    (between : ContentsValue) × AddsFile default name input before between × AddsFiles default names inputs between after
AddsFiles default _ _ before after = ⊥

-- A line is refused.
abbrev pub has_refused : ContentsValue → Bool
has_refused c = nat_lt 0 (length c.refused)

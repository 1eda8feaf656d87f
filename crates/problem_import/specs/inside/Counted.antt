-- Not for believing: what is printed, counted. No contract of a public call rests on it.
use Rattle.std.specs.Prelude.{ℕ, ◌+◌, ◌==◌, if◌then◌else◌, List, [], ◌∷◌, ◌++◌, min, Bool, true, false, not}
use Rattle.chess_board.specs.Characters.{char}
use Rattle.chess_notation.specs.Records.{RecordValue, Reads}
use Rattle.problem_import.specs.Imports.{IsRecord, one_if, refused_line}
use Rattle.problem_import.specs.declared.import_counts.ImportCounts.{ImportCounts}
use Rattle.problem_import.specs.declared.import_faults.ImportFault.{ImportFault}
use Rattle.problem_import.specs.declared.import_faults.ImportFault.TheVariants.{NoBound}

-- so many with those more, as far as a count goes
abbrev pub with_more : (count more : ℕ) → ℕ
with_more count more = min (count + more) 18446744073709551615

-- one record more, which says its number of moves or not
abbrev pub with_record : Bool → ImportCounts → ImportCounts
with_record says c = record c { records = with_more c.records 1; unnumbered = with_more c.unnumbered (one_if (not says)) }

-- one problem more that is refused, for want of a number of moves or not
abbrev pub with_refusal : Bool → ImportCounts → ImportCounts
with_refusal wants c = record c { refused = with_more c.refused 1; unbound = with_more c.unbound (one_if wants) }

-- one line more that is passed over, and has a placement
abbrev pub with_aside : ℕ → ImportCounts → ImportCounts
with_aside number c = record c { aside = with_more c.aside 1; first_aside = if c.aside == 0 then number else c.first_aside }

-- Whichever bound is the default one, the line says the same record: it says its number of moves itself.
abbrev pub SaysBound : List ℕ → Type 0
SaysBound line = (r : RecordValue) × ((default : ℕ) → Reads line default r)

abbrev pub IsSaid : List ℕ → Bool → Type 0
IsSaid line true = SaysBound line
IsSaid line false = ¬ (SaysBound line)

abbrev pub is_no_bound : ImportFault → Bool
is_no_bound NoBound = true
is_no_bound _ = false

-- Records and refusals, one behind the other, counted on such counts: of each record whether it says its number of moves, of each refusal
-- whether it is for want of one.
pub data AreCounted (first : ImportCounts) : List ℕ → ImportCounts → Type 0 where
  none : AreCounted first [] first
  of_record : (text line : List ℕ) (says : Bool) (c : ImportCounts) → AreCounted first text c → IsRecord line → IsSaid line says
      → AreCounted first (text ++ line ++ char "\n" ∷ []) (with_record says c)
  of_refusal : (text : List ℕ) (number : ℕ) (fault : ImportFault) (c : ImportCounts) → AreCounted first text c
      → AreCounted first (text ++ refused_line number fault) (with_refusal (is_no_bound fault) c)

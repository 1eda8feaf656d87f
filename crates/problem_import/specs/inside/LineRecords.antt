-- Not for believing: what a line is read as. No contract of a public call rests on it.
use Rattle.std.specs.Prelude.{◌≡◌, ℕ, List, true}
use Rattle.chess_notation.specs.Records.{RecordValue, Reads}
use Rattle.problem_import.specs.inside.Counted.{IsSaid}
use Rattle.problem_import.specs.declared.line_kinds.LineRecord.{LineRecord}

-- With such a default bound the line says a record of such a position and such a bound. That it says its number of moves itself is put down
-- until it is read once more.
unfoldable pub IsReadBy : List ℕ → ℕ → LineRecord → Type 0
IsReadBy line default found = (r : RecordValue) × Reads line default r × (r.position ≡ found.position) × (r.bound ≡ found.bound)
    × (found.says ≡ true)

-- It is a record of such a position and such a bound, which says its number of moves itself or doesn't.
pub record IsFoundIn (line : List ℕ) (found : LineRecord) : Type 0 where
  pub reads : (r : RecordValue) × Reads line 3 r
  pub position : (r : RecordValue) → Reads line 3 r → r.position ≡ found.position
  pub bound : (r : RecordValue) → Reads line 3 r → r.bound ≡ found.bound
  pub said : IsSaid line found.says

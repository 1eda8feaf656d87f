-- What of a line can be solved (own to this project).
use Rattle.std.specs.Prelude.{ℕ, List}
use Rattle.chess_notation.specs.Records.{RecordValue, Reads}

-- The line says a record, with such a bound where it says none.
abbrev pub SaysRecord : ℕ → List ℕ → Type 0
SaysRecord default line = (r : RecordValue) × Reads line default r

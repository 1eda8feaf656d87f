-- Whether a line says itself within how many moves mate is asked for (own to this project).
use Rattle.std.specs.Prelude.{ℕ, List}
use Rattle.chess_notation.specs.Claims.{claim_words, length_claimed}
use Rattle.chess_notation.specs.Records.{RecordValue, Reads}
use Rattle.mate_claims.specs.declared.bound_sources.BoundSource.{BoundSource}
use Rattle.mate_claims.specs.declared.bound_sources.BoundSource.TheVariants.{Line, Default}

-- The line says the record: without `dm` its bound is the first length that `bm` claims, or else the default one.
abbrev pub ReadsClaimed : List ℕ → ℕ → RecordValue → Type 0
ReadsClaimed line default r = Reads line (length_claimed (claim_words line) default) r

-- Whichever bound is the default one, the line says this record.
abbrev pub SaysBound : List ℕ → RecordValue → Type 0
SaysBound line r = (default : ℕ) → ReadsClaimed line default r

abbrev pub IsSource : List ℕ → RecordValue → BoundSource → Type 0
IsSource line r Line = SaysBound line r
IsSource line r Default = ¬ (SaysBound line r)

-- The line says a record, and it is known where its bound comes from.
abbrev pub SaysClaimed : List ℕ → ℕ → Type 0
SaysClaimed line default = (r : RecordValue) × (source : BoundSource) × ReadsClaimed line default r × IsSource line r source

-- What an output gains.
use Rattle.std.specs.Prelude.{ℕ, List, Option}
use Rattle.std.specs.Io.KnownBytes.{Appends, Keeps}
use Rattle.byte_streams.specs.Stops.{AppendsPart}
use Rattle.byte_streams.specs.declared.stops.Stop.{Stop}
use Rattle.byte_streams.specs.declared.stops.Stop.TheVariants.{NoMemory, Unreadable, Unwritable, NoReader}

-- The known bytes of an output grow by exactly what is shown.
pub record Gains (Shown : List ℕ → Type 0) (old new : Option (List ℕ)) : Type 0 where
  pub gained : List ℕ
  pub shows : Shown gained
  pub appends : Appends old new gained

-- The known bytes of an output grow by a first part of it.
pub record GainsPart (Shown : List ℕ → Type 0) (old new : Option (List ℕ)) : Type 0 where
  pub whole : List ℕ
  pub shows : Shown whole
  pub appends : AppendsPart old new whole

-- What the output gained where a command stops that reads no file: nothing where memory gives out, and a first part of what there is to
-- show where a write breaks off.
abbrev pub StopsShowing : (List ℕ → Type 0) → Stop → (old new : Option (List ℕ)) → Type 0
StopsShowing Shown NoMemory old new = Keeps old new
StopsShowing Shown Unreadable old new = ⊥
StopsShowing Shown Unwritable old new = GainsPart Shown old new
StopsShowing Shown NoReader old new = GainsPart Shown old new

-- Why the answers to an input stop before its end, and what is written by then.
use Rattle.std.specs.Prelude.{◌≡◌, ◌++◌, ℕ, Bool, List, Option, true, false}
use Rattle.std.specs.Io.KnownBytes.{Appends}
use Rattle.byte_streams.specs.declared.inputs.InputFault.{InputFault}
use Rattle.byte_streams.specs.declared.inputs.InputFault.TheVariants as fault
use Rattle.byte_streams.specs.declared.stops.Stop.{Stop}
use Rattle.byte_streams.specs.declared.stops.Stop.TheVariants.{NoMemory, Unreadable, Unwritable, NoReader}

-- a write broke off
abbrev pub is_of_output : Stop → Bool
is_of_output NoMemory = false
is_of_output Unreadable = false
is_of_output Unwritable = true
is_of_output NoReader = true

-- The known bytes of an output grow by a first part of a text.
abbrev pub AppendsPart : Option (List ℕ) → Option (List ℕ) → List ℕ → Type 0
AppendsPart old new text = (part : List ℕ) × (rest : List ℕ) × (text ≡ part ++ rest) × Appends old new part

-- The output grows by the text; where a write broke off, by a first part of it.
abbrev pub AppendsBy : Stop → Option (List ℕ) → Option (List ℕ) → List ℕ → Type 0
AppendsBy NoMemory old new text = Appends old new text
AppendsBy Unreadable old new text = Appends old new text
AppendsBy Unwritable old new text = AppendsPart old new text
AppendsBy NoReader old new text = AppendsPart old new text

-- the stop that a fault of the input is
abbrev pub stop_of : InputFault → Stop
stop_of fault.Unreadable = Unreadable
stop_of fault.NoMemory = NoMemory

-- The statuses that a command ends with.
use Rattle.std.specs.Prelude.{ℕ, Bool, Result, Ok, Err, true, false}
use Rattle.byte_streams.specs.declared.stops.Stop.{Stop}
use Rattle.byte_streams.specs.declared.stops.Stop.TheVariants.{NoMemory, Unreadable, Unwritable, NoReader}

-- the status that a command ends with: whether it refused anything, or why it stopped
abbrev pub status_of : Result Bool Stop → ℕ
status_of (Ok false) = 0
status_of (Ok true) = 1
status_of (Err NoMemory) = 3
status_of (Err Unreadable) = 4
status_of (Err Unwritable) = 4
status_of (Err NoReader) = 4

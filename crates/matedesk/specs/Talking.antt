-- The status of `uci`.
use Rattle.std.specs.Prelude.{ℕ, Result, Ok, Err}
use Rattle.file_answers.specs.Status.{status_of}
use Rattle.uci_engine.specs.declared.engine.TalkFault.{TalkFault}
use Rattle.uci_engine.specs.declared.engine.TalkFault.TheVariants.{NoThread, Stop}

-- the status that an engine ends with: whether it was told to, or why not
abbrev pub talk_status : {A : Type 0} → Result A TalkFault → ℕ
talk_status (Ok _) = 0
talk_status (Err NoThread) = 3
talk_status (Err (Stop stop)) = status_of (Err stop)

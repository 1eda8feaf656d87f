-- What is shown where each record may take so many seconds.
use Rattle.std.specs.Prelude.{◌≡◌, ◌<◌, ℕ, Bool, List, Option}
use Rattle.clap.specs.Words.{Text}
use Rattle.command_words.specs.Asked.{Asked}
use Rattle.plain_commands.specs.Command.{Shown, ShownInPart}

-- What the output gained where so many records were not decided: what the command shows, or what it shows in part.
pub record ShownInTime (holds : Text → Option (List ℕ)) (asks : Asked) (refused : Bool) (undecided : ℕ) (old new : Option (List ℕ)) : Type 0 where
  pub whole : undecided ≡ 0 → Shown holds asks refused old new
  pub part : 0 < undecided → ShownInPart holds asks old new

-- How the program ends that solves alone.
use Rattle.std.specs.Prelude.{◌≡◌, ℕ, Bool, List, Option, None, Some, Result, IfErr, IfOk, true, false}
use Rattle.std.specs.Io.KnownBytes.{Keeps}
use Rattle.clap.specs.Words.{Text}
use Rattle.clap.specs.declared.parser.matches.ArgMatches.{ArgMatches}
use Rattle.byte_streams.specs.declared.stops.Stop.{Stop}
use Rattle.command_words.specs.Asked.{Asked, asked_of, progress_of, solve}
use Rattle.file_answers.specs.Status.{status_of}
use Rattle.file_answers.specs.Writing.{Gains}
use Rattle.file_solving.specs.Solved.{Solves, StopsSolving}

-- It ends with the status of a `solve` that wrote what it had to, or stopped, which the words asked for; or memory gave out before what they
-- ask for was known, and nothing is written.
pub data Ends (holds : Text → Option (List ℕ)) (refuses : Text → Type 0) (asks : Option Asked) (status : ℕ)
    (old new : Option (List ℕ)) : Type 0 where
  solved : (bound memo from : ℕ) (names : List Text) (ended : Result Bool Stop) → asks ≡ Some (solve bound memo from names)
      → status ≡ status_of ended → IfOk ended (λ refused. Gains (Solves holds bound from names refused) old new)
      → IfErr ended (λ stop. StopsSolving holds refuses bound from names stop old new) → Ends holds refuses asks status old new
  unread : status ≡ 3 → Keeps old new → Ends holds refuses asks status old new

-- asks for `solve` without threads
abbrev pub is_solve : Asked → Bool
is_solve (solve bound memo from names) = true
is_solve _ = false

abbrev pub asks_solve : Option Asked → Bool
asks_solve None = false
asks_solve (Some asks) = is_solve asks

-- It is also asked to tell how far it is.
abbrev pub IsTold : Option Asked → Type 0
IsTold asks = (m : ArgMatches) × (asked_of m ≡ asks) × (progress_of m ≡ true)

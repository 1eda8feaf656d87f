-- What is written before a file is opened: nothing.
use Rattle.std.proofs.Common.{ℕ, List, [], Option}
use Rattle.std.specs.Bool.{⊤}
use Rattle.std.proofs.KnownBytes.{Appends-kept, Appends-nil}
use Rattle.std.specs.Io.KnownBytes.{Keeps}
use Rattle.byte_streams.specs.declared.stops.Stop.TheVariants as stop
use Rattle.file_answers.proofs.Unopened.{answers_none, no_reply_on}
use Rattle.file_solving.specs.Solved.{LimitedNone, SolvesNone, StopsSolving, first_limited_replies, first_record_replies}

pub no_record_reply : (bound from : ℕ) (name input : List ℕ) → first_record_replies bound from name input []
no_record_reply bound from name input = no_reply_on _ from input

pub solves_none : SolvesNone
solves_none holds bound from names = answers_none holds _ _ from names (no_record_reply bound)

pub stops_at_once : (holds : List ℕ → Option (List ℕ)) (refuses : List ℕ → Type 0) (bound from : ℕ) (names : List (List ℕ))
    (old new : Option (List ℕ)) → Keeps old new
    → StopsSolving holds refuses bound from names stop.NoMemory old new
stops_at_once holds refuses bound from names old new kept = record {
  gained = [];
  shows = solves_none holds bound from names;
  appends = Appends-kept old old new [] (Appends-nil old) kept;
}

pub no_limited_reply : (stops : Type 0) (seconds bound from : ℕ) (name input : List ℕ) → first_limited_replies stops seconds bound from name input []
no_limited_reply stops seconds bound from name input = no_reply_on _ from input

pub limited_none : LimitedNone
limited_none holds seconds bound from names = answers_none holds _ _ from names (no_limited_reply ⊤ seconds bound)

-- What is written before a file is opened: nothing.
use Rattle.std.proofs.Common.{ℕ, Bool, false, List, [], Option, refl}
use Rattle.std.specs.Bool.{⊤}
use Rattle.std.proofs.KnownBytes.{Appends-kept, Appends-nil}
use Rattle.std.specs.Io.KnownBytes.{Keeps}
use Rattle.byte_streams.specs.declared.stops.Stop.TheVariants as stop
use Rattle.file_answers.proofs.Unopened.{answers_none, no_reply_on}
use Rattle.text_lines.specs.LinesFrom.{lines_from}
use Rattle.text_lines.specs.Lines.{texts_of}
use Rattle.mail_lines.specs.Mails.{mailed}
use Rattle.problem_import.specs.Problems.{no_problem}
use Rattle.problem_import.specs.declared.import_letters.ImportLetters.{ImportLetters}
use Rattle.import_claims.proofs.SourcedRows.{none_sourced}
use Rattle.import_claims.specs.VerifiedImports.{ShowsFirst, StopsRows, first_imported_replies, has_several}

pub no_imported_reply : (several : Bool) (letters : ImportLetters) (bound : Option ℕ) (from : ℕ) (name input : List ℕ)
    → first_imported_replies several letters bound from name input []
no_imported_reply several letters bound from name input = (
  (0, ([], 0, [], [], false, no_reply_on _ from (mailed letters.placements input), (0, no_problem, refl), refl, refl)),
  none_sourced (mailed letters.placements) letters.moves letters.placements false bound _ _
      (lines_from from (texts_of (mailed letters.placements input))),
)

pub shows_none : (holds : List ℕ → Option (List ℕ)) (letters : ImportLetters) (bound : Option ℕ) (from : ℕ) (names : List (List ℕ))
    → ShowsFirst holds letters bound from names (λ _. ⊤) []
shows_none holds letters bound from names = answers_none holds _ _ from names (no_imported_reply (has_several names) letters bound)

pub stops_at_once : (holds : List ℕ → Option (List ℕ)) (refuses : List ℕ → Type 0) (letters : ImportLetters) (bound : Option ℕ) (from : ℕ) (names : List (List ℕ))
    (old new : Option (List ℕ)) → Keeps old new → StopsRows holds refuses letters bound from names stop.NoMemory old new
stops_at_once holds refuses letters bound from names old new kept = record {
  gained = [];
  shows = shows_none holds letters bound from names;
  appends = Appends-kept old old new [] (Appends-nil old) kept;
}

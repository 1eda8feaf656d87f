-- What `import` shows.
use Rattle.std.specs.Prelude.{ℕ, Bool, List, Option}
use Rattle.problem_import.specs.declared.import_letters.ImportLetters.{ImportLetters}
use Rattle.problem_import.specs.Imported.{IsImported, IsImportedOfFirst}
use Rattle.byte_streams.specs.declared.stops.Stop.{Stop}
use Rattle.file_answers.specs.FileAnswers.{Answers, StopsAnswering}

-- What a file is imported as, whatever it is called. No lines of it are passed over.
abbrev pub import_replies : ImportLetters → Bool → Option ℕ → ℕ → List ℕ → List ℕ → List ℕ → ℕ → Type 0
import_replies letters keep bound from name input text count = IsImported letters keep bound input text count

abbrev pub first_import_replies : ImportLetters → Bool → Option ℕ → ℕ → List ℕ → List ℕ → List ℕ → Type 0
first_import_replies letters keep bound from name input text = IsImportedOfFirst letters keep bound input text

-- What the names hold, imported with such letters, with `keep` or without, and whether a problem is refused.
abbrev pub ImportsFiles : (List ℕ → Option (List ℕ)) → ImportLetters → Bool → Option ℕ → List (List ℕ) → Bool → List ℕ → Type 0
ImportsFiles holds letters keep bound names refused gained = Answers holds (import_replies letters keep bound) 1 names refused gained

-- What the output gained where `import` stops.
abbrev pub StopsImporting : (List ℕ → Option (List ℕ)) → (List ℕ → Type 0) → ImportLetters → Bool → Option ℕ → List (List ℕ) → Stop
    → (old new : Option (List ℕ)) → Type 0
StopsImporting holds refuses letters keep bound names stop old new =
    StopsAnswering holds refuses (import_replies letters keep bound) (first_import_replies letters keep bound) 1 names stop old new

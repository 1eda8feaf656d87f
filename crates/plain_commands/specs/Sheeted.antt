-- What `sheet` shows.
use Rattle.std.specs.Prelude.{◌≡◌, ℕ, Bool, List, Option}
use Rattle.std.specs.Io.KnownBytes.{Keeps}
use Rattle.byte_streams.specs.declared.stops.Stop.{Stop}
use Rattle.byte_streams.specs.declared.stops.Stop.TheVariants.{NoMemory, Unreadable, Unwritable, NoReader}
use Rattle.command_words.specs.declared.request.SheetForm.{SheetForm}
use Rattle.problem_sheets.specs.Contents.{AddsFiles, ContentsValue, has_refused, no_contents}
use Rattle.problem_sheets.specs.Pages.{page_text}
use Rattle.problem_sheets.specs.declared.pages.Form.{Form}
use Rattle.file_answers.specs.Sources.{Holds, SomeRefused}
use Rattle.file_answers.specs.Writing.{GainsPart}
use Rattle.problem_import.specs.Imported.{letters_in}
use Rattle.plain_commands.specs.Told.{pieces_of}

-- what a page has, as the words ask for it, of which one gives the letters of men
abbrev pub page_form_of : SheetForm → List ℕ → Form
page_form_of f letters = record { solutions = f.solutions; pieces = pieces_of f.figurines (letters_in letters) }

-- The page of what the names hold, and whether a line of it is refused.
pub record Sheets (holds : List ℕ → Option (List ℕ)) (bound : ℕ) (form : Form) (title : List ℕ) (names : List (List ℕ))
    (refused : Bool) (gained : List ℕ) : Type 0 where
  pub inputs : List (List ℕ)
  pub contents : ContentsValue
  pub given : Holds holds names inputs
  pub adds : AddsFiles bound names inputs no_contents contents
  pub page : gained ≡ page_text form title contents
  pub refusal : refused ≡ has_refused contents

-- A page of these files, or a first part of one.
abbrev pub GainsPagePart : (List ℕ → Option (List ℕ)) → ℕ → Form → List ℕ → List (List ℕ) → (old new : Option (List ℕ)) → Type 0
GainsPagePart holds bound form title names old new = GainsPart (λ text. (refused : Bool) × Sheets holds bound form title names refused text) old new

-- What the output gained where `sheet` stops: nothing where memory gives out, or where a file can't be read, which may be refused; and
-- where a write breaks off, a first part of the page.
abbrev pub StopsSheet : (List ℕ → Option (List ℕ)) → (List ℕ → Type 0) → ℕ → Form → List ℕ → List (List ℕ)
    → Stop → (old new : Option (List ℕ)) → Type 0
StopsSheet holds refuses bound form title names NoMemory old new = Keeps old new
StopsSheet holds refuses bound form title names Unreadable old new = SomeRefused refuses names × Keeps old new
StopsSheet holds refuses bound form title names Unwritable old new = GainsPagePart holds bound form title names old new
StopsSheet holds refuses bound form title names NoReader old new = GainsPagePart holds bound form title names old new

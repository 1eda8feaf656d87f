-- What `verify --import` shows.
use Rattle.std.specs.Prelude.{◌≡◌, ◌⊎◌, ◌++◌, ℕ, Bool, false, List, [], Option, Some, None, ⊤, codes, length, nat_lt, if◌then◌else◌}
use Rattle.byte_streams.specs.declared.stops.Stop.{Stop}
use Rattle.byte_streams.specs.declared.stops.Stop.TheVariants.{NoMemory, Unreadable, Unwritable, NoReader}
use Rattle.mate_claims.specs.ClaimReplies.{IsClaimReply}
use Rattle.mail_lines.specs.Mails.{mailed}
use Rattle.problem_import.specs.Problems.{AnswersSourced, IsEnded, IsEndedFirst, IsProblemReply}
use Rattle.problem_import.specs.declared.import_letters.ImportLetters.{ImportLetters}
use Rattle.text_lines.specs.Lines.{texts_of}
use Rattle.file_answers.specs.FileAnswers.{Answers, AnswersFirst, FirstRefused, StopsAnswering}
use Rattle.text_lines.specs.LinesFrom.{IsReplyOn, IsReplyToFirstOn, lines_from}
use Rattle.file_answers.specs.Writing.{Gains, GainsPart}
use Rattle.import_claims.specs.ImportedRows.{IsRefusedRow}

-- A row names its file where there are several.
abbrev pub has_several : List (List ℕ) → Bool
has_several names = nat_lt 1 (length names)

-- what stands before the number of a line
abbrev pub prefix_of : Bool → List ℕ → List ℕ
prefix_of several name = if several then name ++ codes ":" else []

-- the bound of records as they stand that say none: the one that is given, or else 3
abbrev pub bound_or_three : Option ℕ → ℕ
bound_or_three (Some bound) = bound
bound_or_three None = 3

-- What is answered once a line is read: of each record that `import` may print then its row, as `verify` has it, by the number of its line
-- or of the first line of what it was made of; of each refusal the row of its fault.
abbrev pub imported_reply : ImportLetters → List ℕ → Option ℕ → ℕ → List ℕ → List ℕ → ℕ → Type 0
imported_reply letters prefix bound = IsProblemReply letters.moves false bound (IsClaimReply prefix (bound_or_three bound)) (IsRefusedRow prefix)

-- The rows of a file's problems, of those that its lines from that of a number on say, by such letters and with what problems take on; each is
-- of a record that is of these lines, or of a refusal.
abbrev pub imported_replies : Bool → ImportLetters → Option ℕ → ℕ → List ℕ → List ℕ → List ℕ → ℕ → Type 0
imported_replies several letters bound from name input text unsound = IsEnded false bound (IsClaimReply (prefix_of several name) (bound_or_three bound))
    (IsRefusedRow (prefix_of several name)) (IsReplyOn (imported_reply letters (prefix_of several name) bound) from (mailed letters.placements input)) text unsound
    × AnswersSourced letters.placements bound (IsClaimReply (prefix_of several name) (bound_or_three bound)) (IsRefusedRow (prefix_of several name))
    (lines_from from (texts_of (mailed letters.placements input))) text

abbrev pub first_imported_replies : Bool → ImportLetters → Option ℕ → ℕ → List ℕ → List ℕ → List ℕ → Type 0
first_imported_replies several letters bound from name input text = IsEndedFirst false bound (IsClaimReply (prefix_of several name) (bound_or_three bound))
    (IsRefusedRow (prefix_of several name)) (IsReplyToFirstOn (imported_reply letters (prefix_of several name) bound) from (mailed letters.placements input)) text
    × AnswersSourced letters.placements bound (IsClaimReply (prefix_of several name) (bound_or_three bound)) (IsRefusedRow (prefix_of several name))
    (lines_from from (texts_of (mailed letters.placements input))) text

-- The rows of what the names hold, of the first of them from the line of such a number on, and whether one isn't sound.
abbrev pub ShowsRows : (List ℕ → Option (List ℕ)) → ImportLetters → Option ℕ → ℕ → List (List ℕ) → Bool → List ℕ → Type 0
ShowsRows holds letters bound from names unsound gained = Answers holds (imported_replies (has_several names) letters bound) from names unsound gained

-- What the output gained where the rows stop.
abbrev pub StopsRows : (List ℕ → Option (List ℕ)) → (List ℕ → Type 0) → ImportLetters → Option ℕ → ℕ → List (List ℕ) → Stop → (old new : Option (List ℕ))
    → Type 0
StopsRows holds refuses letters bound from names stop old new = StopsAnswering holds refuses
    (imported_replies (has_several names) letters bound) (first_imported_replies (has_several names) letters bound) from names stop old new

-- the first row, where it is asked for: the names of the fields
unfoldable pub header_text : Bool → List ℕ
header_text header = if header then codes "LINE\tVERDICT\tASKED\tFOUND\tKEYS\tCLAIMED\tID\n" else []

-- Behind it stand rows such as these.
abbrev pub Headed : Bool → (List ℕ → Type 0) → List ℕ → Type 0
Headed header Rows text = (rows : List ℕ) × (text ≡ header_text header ++ rows) × Rows rows

-- What `verify --import` shows, by such letters, with such a bound or none, and whether a row isn't sound.
abbrev pub VerifiesImported : (List ℕ → Option (List ℕ)) → ImportLetters → Option ℕ → Bool → ℕ → List (List ℕ) → Bool → List ℕ → Type 0
VerifiesImported holds letters bound header from names unsound gained = Headed header (ShowsRows holds letters bound from names unsound) gained

-- Rows of what some of the first lines say, up to names such as `Stops` says.
abbrev pub ShowsFirst : (List ℕ → Option (List ℕ)) → ImportLetters → Option ℕ → ℕ → List (List ℕ) → (List (List ℕ) → Type 0) → List ℕ → Type 0
ShowsFirst holds letters bound from names Stops gained = AnswersFirst holds
    (imported_replies (has_several names) letters bound) (first_imported_replies (has_several names) letters bound) from names Stops gained

-- as where the rows stop, behind the first row; where memory gives out perhaps nothing
abbrev pub StopsHeaded : (List ℕ → Option (List ℕ)) → (List ℕ → Type 0) → ImportLetters → Option ℕ → Bool → ℕ → List (List ℕ) → Stop
    → (old new : Option (List ℕ)) → Type 0
StopsHeaded holds refuses letters bound header from names NoMemory old new =
    Gains (λ text. (text ≡ []) ⊎ Headed header (ShowsFirst holds letters bound from names (λ _. ⊤)) text) old new
StopsHeaded holds refuses letters bound header from names Unreadable old new =
    Gains (Headed header (ShowsFirst holds letters bound from names (FirstRefused refuses))) old new
StopsHeaded holds refuses letters bound header from names Unwritable old new =
    GainsPart (Headed header (ShowsFirst holds letters bound from names (λ _. ⊤))) old new
StopsHeaded holds refuses letters bound header from names NoReader old new =
    GainsPart (Headed header (ShowsFirst holds letters bound from names (λ _. ⊤))) old new

-- What the output gained where `verify --import` stops.
abbrev pub StopsVerifyingImported : (List ℕ → Option (List ℕ)) → (List ℕ → Type 0) → ImportLetters → Option ℕ → Bool → ℕ → List (List ℕ) → Stop
    → (old new : Option (List ℕ)) → Type 0
StopsVerifyingImported holds refuses letters bound header from names stop old new =
    StopsHeaded holds refuses letters bound header from names stop old new

-- Not for believing: what is answered to problems that were found. It comes to `AnswersOf`.
use Rattle.std.specs.Prelude.{◌≡◌, ℕ, ◌+◌, ◌<◌, List, [], ◌∷◌, ◌++◌, length, Bool, Option}
use Rattle.move_words.specs.declared.languages.Letters.{Letters}
use Rattle.std.specs.Io.KnownBytes.{Appends}
use Rattle.byte_streams.specs.Stops.{AppendsBy}
use Rattle.byte_streams.specs.declared.stops.Stop.{Stop}
use Rattle.chess_board.specs.Characters.{char}
use Rattle.text_lines.specs.Replies.{LineReplies, RepliesBehind}
use Rattle.problem_import.specs.Imports.{AreImported, one_if, refused_line}
use Rattle.problem_import.specs.Problems.{AreAnswered, IsAnswered, IsProblemReply, OfAnyKind, RefusalRows}
use Rattle.problem_import.specs.declared.import_counts.ImportCounts.{ImportCounts}
use Rattle.problem_import.specs.declared.problem_lines.Answers.{Answers}
use Rattle.problem_import.specs.declared.reading.Reading.{Reading}
use Rattle.problem_import.specs.inside.Counted.{AreCounted}
use Rattle.problem_import.specs.inside.KnownSources.{IsKnownOf, IsMadeFrom}

-- to something that may be printed, which is counted on such counts
abbrev pub AnswersTo : Bool → (given : Option ℕ) → (line : List ℕ) → LineReplies → RefusalRows → (first : ImportCounts) → (printed : List ℕ)
    → Answers → Type 0
AnswersTo keep given line records rows first printed answers = IsAnswered keep given line records rows printed answers.text.items answers.any
    × AreCounted first printed answers.counts

-- to something, where so many were found that there is one
abbrev pub IsFound : Bool → (given : Option ℕ) → (line : List ℕ) → LineReplies → RefusalRows → (first : ImportCounts) → ℕ → Answers → Type 0
IsFound keep given line records rows first found answers =
    (printed : List ℕ) × (0 < found → 0 < length printed) × AnswersTo keep given line records rows first printed answers

-- Records are answered that are of the lines, and refusals.
abbrev pub IsAnsweredFrom : Letters → (given : Option ℕ) → (lines : List (List ℕ)) → LineReplies → RefusalRows → (text : List ℕ) → Type 0
IsAnsweredFrom letters given lines records rows text = (printed : List ℕ) × (any : Bool) × (refusals : ℕ)
    × AreImported (IsMadeFrom letters given lines) printed any × AreAnswered OfAnyKind records rows printed text refusals

-- What goes from line to line is known to be of these.
abbrev pub IsReadOf : Letters → Reading → (lines : List (List ℕ)) → Type 0
IsReadOf letters reading lines = IsKnownOf letters reading lines

-- At the end of the lines that it is known to be of, so is what is answered.
abbrev pub EndsAnswered : Letters → (given : Option ℕ) → LineReplies → RefusalRows → Reading → (last : List ℕ) → Type 0
EndsAnswered letters given records rows reading last = (lines : List (List ℕ)) → IsReadOf letters reading lines
    → IsAnsweredFrom letters given (lines ++ [] ∷ []) records rows last

-- what is answered at the end
abbrev pub IsLast : Letters → Bool → (given : Option ℕ) → LineReplies → RefusalRows → Reading → (last : List ℕ) → Bool → Type 0
IsLast letters keep given records rows reading last any = (printed : List ℕ) × IsAnswered keep given [] records rows printed last any
    × EndsAnswered letters given records rows reading last

-- Of so many refusals these are made by what is put at the end.
abbrev pub IsLastPut : Letters → Bool → (given : Option ℕ) → LineReplies → RefusalRows → Reading → (count total : ℕ) → (old new : Option (List ℕ)) → Type 0
IsLastPut letters keep given records rows reading count total old new = (last : List ℕ) × (any : Bool)
    × IsLast letters keep given records rows reading last any × (total ≡ count + one_if any) × Appends old new last

-- The same where the output breaks off.
abbrev pub IsLastCut : Letters → Bool → (given : Option ℕ) → LineReplies → RefusalRows → Reading → Stop → (old new : Option (List ℕ)) → Type 0
IsLastCut letters keep given records rows reading stop old new = (last : List ℕ) × (any : Bool)
    × IsLast letters keep given records rows reading last any × AppendsBy stop old new last

-- What a line is answered, and that it is so behind the lines before it.
abbrev pub AnswersBehind : (moves letters : Letters) → Bool → (given : Option ℕ) → LineReplies → RefusalRows → RepliesBehind
AnswersBehind moves letters keep given records rows before number line text refused =
    IsProblemReply moves keep given records rows number line text refused × IsAnsweredFrom letters given (before ++ line ∷ []) records rows text

-- A record, and a refusal, answered by being printed.
abbrev pub prints_record : LineReplies
prints_record number line text refused = (text ≡ line ++ char "\n" ∷ []) × (refused ≡ 0)

abbrev pub prints_refusal : RefusalRows
prints_refusal number fault text = text ≡ refused_line number fault

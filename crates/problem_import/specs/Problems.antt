-- What problems are answered that are imported, in place of being printed (own to this project).
use Rattle.std.specs.Prelude.{◌≡◌, ◌≢◌, ℕ, ◌+◌, nat_lt, List, [], ◌∷◌, ◌++◌, Bool, true, false, Option, ⊤}
use Rattle.chess_board.specs.Characters.{char}
use Rattle.chess_notation.specs.Words.{is_blank}
use Rattle.move_words.specs.Languages.{is_english}
use Rattle.move_words.specs.declared.languages.Letters.{Letters}
use Rattle.text_lines.specs.Lines.{texts_of}
use Rattle.text_lines.specs.Replies.{IsReply, IsReplyToFirst, LineReplies}
use Rattle.problem_import.specs.Imports.{EndsWithLine, IsClean, IsImport, IsMade, IsRecord, one_if, refused_line}
use Rattle.problem_import.specs.Sources.{AreSourced}
use Rattle.mail_lines.specs.Mails.{mailed}
use Rattle.problem_import.specs.declared.import_faults.ImportFault.{ImportFault}
use Rattle.problem_import.specs.declared.import_letters.ImportLetters.{ImportLetters}

-- What is told of a problem that is refused, by its number and its fault.
abbrev pub RefusalRows : Type 1
RefusalRows = ℕ → ImportFault → List ℕ → Type 0

-- Lines of which each is a record of this kind, or refuses a problem, and what they are answered, one behind the other: a record what it
-- may be answered by some number, which is so many refusals; a refusal its row by the number and the fault that it names, which is one more.
pub data AreAnswered (IsKind : List ℕ → Type 0) (records : LineReplies) (rows : RefusalRows) : (lines text : List ℕ) → ℕ → Type 0 where
  no_problem : AreAnswered IsKind records rows [] [] 0
  of_record : (number : ℕ) (line here lines text : List ℕ) (count refusals : ℕ) → IsRecord line → IsKind line → records number line here count
      → AreAnswered IsKind records rows lines text refusals
      → AreAnswered IsKind records rows (line ++ char "\n" ∷ lines) (here ++ text) (count + refusals)
  of_refusal : (number : ℕ) (fault : ImportFault) (here lines text : List ℕ) (refusals : ℕ) → rows number fault here
      → AreAnswered IsKind records rows lines text refusals
      → AreAnswered IsKind records rows (refused_line number fault ++ lines) (here ++ text) (1 + refusals)

-- What those lines are answered that may be printed where a line is read, or none, which is empty; and whether a refusal is among it.
abbrev pub IsAnswered : (keep : Bool) → (given : Option ℕ) → (line : List ℕ) → LineReplies → RefusalRows → (printed text : List ℕ) → Bool → Type 0
IsAnswered keep given line records rows printed text any =
    (refusals : ℕ) × AreAnswered (IsMade keep given line) records rows printed text refusals × (any ≡ nat_lt 0 refusals)

abbrev pub EndsWith : (List ℕ → ℕ → Type 0) → List ℕ → Type 0
EndsWith May text = (before : List ℕ) × (here : List ℕ) × (count : ℕ) × May here count × (text ≡ before ++ here)

-- What is answered once a line is read, and how many refusals it counts for: nothing of a blank one; else what `import` may print then is
-- answered, and at last the line itself, by its own number, where it is clean and men have English letters in moves. No record is lost.
pub data IsProblemReply (moves : Letters) (keep : Bool) (given : Option ℕ) (records : LineReplies) (rows : RefusalRows) (number : ℕ)
    (line : List ℕ) : List ℕ → ℕ → Type 0 where
  skipped : is_blank line ≡ true → IsProblemReply moves keep given records rows number line [] 0
  read : (printed text : List ℕ) (any : Bool) → is_blank line ≡ false → IsAnswered keep given line records rows printed text any
      → (is_english moves ≡ true → IsClean line → EndsWithLine line printed × EndsWith (records number line) text)
      → (IsRecord line → printed ≢ []) → IsProblemReply moves keep given records rows number line text (one_if any)

-- Behind such replies, which are so many refusals, stands what is answered at the end of the input.
abbrev pub IsEnded : Bool → Option ℕ → LineReplies → RefusalRows → (List ℕ → ℕ → Type 0) → List ℕ → ℕ → Type 0
IsEnded keep given records rows Replies text count = (replies : List ℕ) × (refusals : ℕ) × (printed : List ℕ) × (last : List ℕ) × (any : Bool)
    × Replies replies refusals × IsAnswered keep given [] records rows printed last any × (text ≡ replies ++ last) × (count ≡ refusals + one_if any)

-- What the problems of an input are answered, and at how many lines, its end for one, a refusal is among it.
unfoldable pub AnswersProblems : (moves : Letters) → Bool → Option ℕ → LineReplies → RefusalRows → List ℕ → List ℕ → ℕ → Type 0
AnswersProblems moves keep given records rows input text count =
    IsEnded keep given records rows (IsReply (IsProblemReply moves keep given records rows) input) text count

-- What there is to write where that stops.
abbrev pub IsEndedFirst : Bool → Option ℕ → LineReplies → RefusalRows → (List ℕ → Type 0) → List ℕ → Type 0
IsEndedFirst keep given records rows Replies text = (count : ℕ) × IsEnded keep given records rows (λ replies refusals. Replies replies) text count

unfoldable pub AnswersFirstProblems : (moves : Letters) → Bool → Option ℕ → LineReplies → RefusalRows → List ℕ → List ℕ → Type 0
AnswersFirstProblems moves keep given records rows input text =
    IsEndedFirst keep given records rows (IsReplyToFirst (IsProblemReply moves keep given records rows) input) text

-- a record of whatever kind
abbrev pub OfAnyKind : List ℕ → Type 0
OfAnyKind line = ⊤

-- What is answered is answered to the lines of one text that `import` may print of the input.
abbrev pub AnswersImports : Bool → Option ℕ → LineReplies → RefusalRows → Type 0
AnswersImports keep given records rows = (moves : Letters) (input text : List ℕ) (count : ℕ)
    → AnswersProblems moves keep given records rows input text count
    → (printed : List ℕ) × (refused : ℕ) × (refusals : ℕ) × IsImport moves keep given input printed refused
    × AreAnswered OfAnyKind records rows printed text refusals

-- What lines are answered: to a text that may be printed of them, each record of which is of its lines.
unfoldable pub AnswersSourced : Letters → (given : Option ℕ) → LineReplies → RefusalRows → (lines : List (List ℕ)) → (text : List ℕ) → Type 0
AnswersSourced letters given records rows lines text = (printed : List ℕ) × (refusals : ℕ) × AreSourced letters given lines printed
    × AreAnswered OfAnyKind records rows printed text refusals

-- What the problems of an input are answered, by such letters in moves and in placements, and with what problems take on; and each record that
-- is answered is of its lines.
abbrev pub AnswersOf : ImportLetters → Bool → Option ℕ → LineReplies → RefusalRows → (input text : List ℕ) → ℕ → Type 0
AnswersOf letters keep given records rows input text count =
    AnswersProblems letters.moves keep given records rows (mailed letters.placements input) text count
    × AnswersSourced letters.placements given records rows (texts_of (mailed letters.placements input)) text

-- What there is to write where that stops.
abbrev pub AnswersFirstOf : ImportLetters → Bool → Option ℕ → LineReplies → RefusalRows → (input text : List ℕ) → Type 0
AnswersFirstOf letters keep given records rows input text =
    AnswersFirstProblems letters.moves keep given records rows (mailed letters.placements input) text
    × AnswersSourced letters.placements given records rows (texts_of (mailed letters.placements input)) text

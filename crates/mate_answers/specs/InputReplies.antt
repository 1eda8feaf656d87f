-- The replies to an input of records, line by line (own to this project).
use Rattle.std.specs.Prelude.{◌≡◌, ℕ, ◌+◌, length, List, [], ◌∷◌, ◌++◌, true, false}
use Rattle.chess_board.specs.Characters.{char}
use Rattle.chess_notation.specs.declared.epd_faults.EpdFault.{EpdFault}
use Rattle.chess_notation.specs.Words.{is_blank}
use Rattle.chess_notation.specs.Records.{RecordValue, problem_of, Reads}
use Rattle.chess_notation.specs.EpdFaults.{IsFaultOf}
use Rattle.chess_notation.specs.Answers.{answer_text}
use Rattle.text_lines.specs.Lines.{without_cr}
use Rattle.text_lines.specs.Refusals.{fault_line}
use Rattle.text_lines.specs.Replies.{IsReplyFrom as IsReplyFromBy, IsReply as IsReplyBy, IsReplyToFirst as IsReplyToFirstBy}
use Rattle.mate_search.specs.inside.Truth.{truth}

-- the reply to a line that says this record: its answer is what is true of its problem
abbrev pub answer_line : RecordValue → List ℕ
answer_line r = answer_text r (truth (problem_of r)) ++ char "\n" ∷ []

-- What one line is answered, and how many refusals that is: nothing where it is blank.
pub data IsLineReply (default number : ℕ) (line : List ℕ) : List ℕ → ℕ → Type 0 where
  skipped : is_blank line ≡ true → IsLineReply default number line [] 0
  refused : (fault : EpdFault) → is_blank line ≡ false → IsFaultOf line fault → IsLineReply default number line (fault_line number fault) 1
  answered : (r : RecordValue) → is_blank line ≡ false → Reads line default r → IsLineReply default number line (answer_line r) 0

-- What lines are answered, the first of them numbered so, and how many are refused.
abbrev pub IsReplyFrom : ℕ → ℕ → List (List ℕ) → List ℕ → ℕ → Type 0
IsReplyFrom default = IsReplyFromBy (IsLineReply default)

-- What an input is answered, and how many of its lines are refused.
abbrev pub IsReply : ℕ → List ℕ → List ℕ → ℕ → Type 0
IsReply default = IsReplyBy (IsLineReply default)

-- What some of the first lines of an input are answered.
abbrev pub IsReplyToFirst : ℕ → List ℕ → List ℕ → Type 0
IsReplyToFirst default = IsReplyToFirstBy (IsLineReply default)

-- The reply to one line more, by its number, goes on the replies to the lines before it.
abbrev pub RepliesGoOn : Type 0
RepliesGoOn = (default number : ℕ) (lines : List (List ℕ)) (line text here : List ℕ) (before count : ℕ) → length lines + 1 ≡ number
    → IsReplyFrom default 1 lines text before → IsLineReply default number (without_cr line) here count
    → IsReplyFrom default 1 (lines ++ line ∷ []) (text ++ here) (before + count)

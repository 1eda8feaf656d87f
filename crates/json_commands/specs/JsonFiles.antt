-- What files are answered in JSON.
use Rattle.std.specs.Prelude.{ℕ, Bool, List, Option, length, nat_lt}
use Rattle.byte_streams.specs.declared.stops.Stop.{Stop}
use Rattle.file_answers.specs.FileAnswers.{Answers, FileReplies, FileTold, FirstReplies, StopsAnswering}
use Rattle.text_lines.specs.LinesFrom.{IsReplyOn, IsReplyToFirstOn}
use Rattle.text_lines.specs.Replies.{LineReplies}
use Rattle.json_replies.specs.Answers.{front_of}
use Rattle.json_replies.specs.Replies.{InJson}
use Rattle.json_replies.specs.declared.replies.Form.{Form}

-- An object names its file where there are several.
abbrev pub has_several : List (List ℕ) → Bool
has_several names = nat_lt 1 (length names)

-- what a file is answered, whose lines would be answered so without JSON
abbrev pub file_replies : Form → Bool → LineReplies → FileReplies
file_replies form several replies from name input text refusals =
    IsReplyOn (InJson form (front_of several name) replies) from input text refusals

-- The same, and how many marks the replies have.
abbrev pub file_told : Form → Bool → (replies marks : LineReplies) → FileTold
file_told form several replies marks from name input text refusals count =
    file_replies form several replies from name input text refusals × file_replies form several marks from name input text count

abbrev pub first_file_replies : Form → Bool → LineReplies → FirstReplies
first_file_replies form several replies from name input text =
    IsReplyToFirstOn (InJson form (front_of several name) replies) from input text

-- The replies to what the names hold, to the first of them from the line of such a number on, and whether a line of it is refused.
abbrev pub AnswersJson : (List ℕ → Option (List ℕ)) → Form → LineReplies → ℕ → List (List ℕ) → Bool → List ℕ → Type 0
AnswersJson holds form replies from names refused gained =
    Answers holds (file_replies form (has_several names) replies) from names refused gained

-- What the output gained where that stops.
abbrev pub StopsJson : (List ℕ → Option (List ℕ)) → (List ℕ → Type 0) → Form → LineReplies → ℕ → List (List ℕ) → Stop
    → (old new : Option (List ℕ)) → Type 0
StopsJson holds refuses form replies from names stop old new = StopsAnswering holds refuses
    (file_replies form (has_several names) replies) (first_file_replies form (has_several names) replies) from names stop old new

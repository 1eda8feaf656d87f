-- What `solve` shows.
use Rattle.std.specs.Prelude.{ℕ, Bool, List, [], Option, ⊤}
use Rattle.mate_answers.specs.InputReplies.{IsLineReply}
use Rattle.mate_answers.specs.LimitedReplies.{IsLateReply, IsLimitedReply}
use Rattle.byte_streams.specs.declared.stops.Stop.{Stop}
use Rattle.file_answers.specs.FileAnswers.{Answers, AnswersFirst, AnswersTold, StopsAnswering}
use Rattle.text_lines.specs.LinesFrom.{IsReplyOn, IsReplyToFirstOn}

-- What records are answered where they ask for no bound but this, whatever their file is called.
abbrev pub record_replies : ℕ → ℕ → List ℕ → List ℕ → List ℕ → ℕ → Type 0
record_replies bound from name input text refusals = IsReplyOn (IsLineReply bound) from input text refusals

abbrev pub first_record_replies : ℕ → ℕ → List ℕ → List ℕ → List ℕ → Type 0
first_record_replies bound from name input text = IsReplyToFirstOn (IsLineReply bound) from input text

-- The replies to what the names hold, to the first of them from the line of such a number on, and whether a line of it is refused.
abbrev pub Solves : (List ℕ → Option (List ℕ)) → ℕ → ℕ → List (List ℕ) → Bool → List ℕ → Type 0
Solves holds bound from names refused gained = Answers holds (record_replies bound) from names refused gained

-- What the output gained where `solve` stops.
abbrev pub StopsSolving : (List ℕ → Option (List ℕ)) → (List ℕ → Type 0) → ℕ → ℕ → List (List ℕ) → Stop → (old new : Option (List ℕ)) → Type 0
StopsSolving holds refuses bound from names stop old new =
    StopsAnswering holds refuses (record_replies bound) (first_record_replies bound) from names stop old new

-- The same, where each record may take so many seconds, and whether a search may be stopped at all.
abbrev pub limited_replies : Type 0 → ℕ → ℕ → ℕ → List ℕ → List ℕ → List ℕ → ℕ → Type 0
limited_replies stops seconds bound from name input text refusals = IsReplyOn (IsLimitedReply stops seconds bound) from input text refusals

-- The same, and how many records were not decided.
abbrev pub limited_told : Type 0 → ℕ → ℕ → ℕ → List ℕ → List ℕ → List ℕ → (refusals undecided : ℕ) → Type 0
limited_told stops seconds bound from name input text refusals undecided =
    limited_replies stops seconds bound from name input text refusals × IsReplyOn (IsLateReply stops seconds bound) from input text undecided

abbrev pub first_limited_replies : Type 0 → ℕ → ℕ → ℕ → List ℕ → List ℕ → List ℕ → Type 0
first_limited_replies stops seconds bound from name input text = IsReplyToFirstOn (IsLimitedReply stops seconds bound) from input text

-- The replies to what the names hold, whether a line of it is refused, and how many records were not decided.
abbrev pub SolvesLimited : (List ℕ → Option (List ℕ)) → (stops : Type 0) → (seconds bound from : ℕ) → List (List ℕ) → Bool → ℕ → List ℕ → Type 0
SolvesLimited holds stops seconds bound from names refused undecided gained =
    AnswersTold holds (limited_told stops seconds bound) from names refused undecided gained

abbrev pub StopsLimited : (List ℕ → Option (List ℕ)) → (List ℕ → Type 0) → (stops : Type 0) → (seconds bound from : ℕ) → List (List ℕ) → Stop
    → (old new : Option (List ℕ)) → Type 0
StopsLimited holds refuses stops seconds bound from names stop old new =
    StopsAnswering holds refuses (limited_replies stops seconds bound) (first_limited_replies stops seconds bound) from names stop old new

-- Before a file is opened there is nothing to write.
abbrev pub SolvesNone : Type 0
SolvesNone = (holds : List ℕ → Option (List ℕ)) (bound from : ℕ) (names : List (List ℕ))
    → AnswersFirst holds (record_replies bound) (first_record_replies bound) from names (λ _. ⊤) []

abbrev pub LimitedNone : Type 0
LimitedNone = (holds : List ℕ → Option (List ℕ)) (seconds bound from : ℕ) (names : List (List ℕ))
    → AnswersFirst holds (limited_replies ⊤ seconds bound) (first_limited_replies ⊤ seconds bound) from names (λ _. ⊤) []

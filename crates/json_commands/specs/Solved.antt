-- What `solve --json` shows.
use Rattle.std.specs.Prelude.{ℕ, Bool, List, Option}
use Rattle.byte_streams.specs.declared.stops.Stop.{Stop}
use Rattle.file_answers.specs.FileAnswers.{AnswersTold}
use Rattle.json_replies.specs.declared.replies.Form.TheVariants.{Answer}
use Rattle.mate_answers.specs.InputReplies.{IsLineReply}
use Rattle.mate_answers.specs.LimitedReplies.{IsLateReply, IsLimitedReply}
use Rattle.json_commands.specs.JsonFiles.{AnswersJson, StopsJson, file_told, has_several}

-- The replies of `solve` in JSON, and whether a line is refused.
abbrev pub SolvesJson : (List ℕ → Option (List ℕ)) → (bound from : ℕ) → List (List ℕ) → Bool → List ℕ → Type 0
SolvesJson holds bound from names refused gained = AnswersJson holds Answer (IsLineReply bound) from names refused gained

-- What the output gained where it stops.
abbrev pub StopsSolvingJson : (List ℕ → Option (List ℕ)) → (List ℕ → Type 0) → (bound from : ℕ) → List (List ℕ) → Stop
    → (old new : Option (List ℕ)) → Type 0
StopsSolvingJson holds refuses bound from names stop old new = StopsJson holds refuses Answer (IsLineReply bound) from names stop old new

-- The same, where each record may take so many seconds, whether a search may be stopped at all, and how many records were not decided.
abbrev pub SolvesLimitedJson : (List ℕ → Option (List ℕ)) → (stops : Type 0) → (seconds bound from : ℕ) → List (List ℕ) → Bool → ℕ → List ℕ → Type 0
SolvesLimitedJson holds stops seconds bound from names refused undecided gained = AnswersTold holds
    (file_told Answer (has_several names) (IsLimitedReply stops seconds bound) (IsLateReply stops seconds bound)) from names refused undecided gained

abbrev pub StopsLimitedJson : (List ℕ → Option (List ℕ)) → (List ℕ → Type 0) → (stops : Type 0) → (seconds bound from : ℕ) → List (List ℕ) → Stop
    → (old new : Option (List ℕ)) → Type 0
StopsLimitedJson holds refuses stops seconds bound from names stop old new =
    StopsJson holds refuses Answer (IsLimitedReply stops seconds bound) from names stop old new

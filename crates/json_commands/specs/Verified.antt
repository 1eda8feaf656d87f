-- What `verify --json` shows, with a limit or without.
use Rattle.std.specs.Prelude.{ℕ, Bool, List, [], Option}
use Rattle.byte_streams.specs.declared.stops.Stop.{Stop}
use Rattle.file_answers.specs.FileAnswers.{AnswersTold}
use Rattle.json_replies.specs.declared.replies.Form.TheVariants.{Row}
use Rattle.mate_claims.specs.ClaimReplies.{IsClaimReply}
use Rattle.mate_claims.specs.LimitedClaims.{IsLateClaim, IsLimitedClaim}
use Rattle.json_commands.specs.JsonFiles.{AnswersJson, StopsJson, file_told, has_several}

-- The rows of `verify` in JSON, and whether a line isn't sound.
abbrev pub VerifiesJson : (List ℕ → Option (List ℕ)) → (bound from : ℕ) → List (List ℕ) → Bool → List ℕ → Type 0
VerifiesJson holds bound from names unsound gained = AnswersJson holds Row (IsClaimReply [] bound) from names unsound gained

-- What the output gained where it stops.
abbrev pub StopsVerifyingJson : (List ℕ → Option (List ℕ)) → (List ℕ → Type 0) → (bound from : ℕ) → List (List ℕ) → Stop
    → (old new : Option (List ℕ)) → Type 0
StopsVerifyingJson holds refuses bound from names stop old new = StopsJson holds refuses Row (IsClaimReply [] bound) from names stop old new

-- The same, where each record may take so long, and a search may perhaps be stopped: whether a line is known not to be sound, and how many records were not decided.
abbrev pub VerifiesLimitedJson : (List ℕ → Option (List ℕ)) → (stops : Type 0) → (bound from : ℕ) → List (List ℕ) → Bool → ℕ → List ℕ → Type 0
VerifiesLimitedJson holds stops bound from names unsound undecided gained = AnswersTold holds
    (file_told Row (has_several names) (IsLimitedClaim stops [] bound) (IsLateClaim stops [] bound)) from names unsound undecided gained

abbrev pub StopsVerifyingLimitedJson : (List ℕ → Option (List ℕ)) → (List ℕ → Type 0) → (stops : Type 0) → (bound from : ℕ) → List (List ℕ) → Stop
    → (old new : Option (List ℕ)) → Type 0
StopsVerifyingLimitedJson holds refuses stops bound from names stop old new = StopsJson holds refuses Row (IsLimitedClaim stops [] bound) from names stop old new

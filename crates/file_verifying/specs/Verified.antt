-- What `verify` shows.
use Rattle.std.specs.Prelude.{◌≡◌, ◌⊎◌, ◌++◌, ℕ, Bool, List, [], Option, ⊤, codes, length, nat_lt, if◌then◌else◌}
use Rattle.mate_claims.specs.ClaimReplies.{IsClaimReply}
use Rattle.mate_claims.specs.LimitedClaims.{IsLateClaim, IsLimitedClaim}
use Rattle.byte_streams.specs.declared.stops.Stop.{Stop}
use Rattle.byte_streams.specs.declared.stops.Stop.TheVariants.{NoMemory, Unreadable, Unwritable, NoReader}
use Rattle.file_answers.specs.FileAnswers.{Answers, AnswersFirst, AnswersTold, FileReplies, FirstRefused, FirstReplies, StopsAnswering}
use Rattle.text_lines.specs.LinesFrom.{IsReplyOn, IsReplyToFirstOn}
use Rattle.file_answers.specs.Writing.{Gains, GainsPart}

-- A row names its file where there are several.
abbrev pub has_several : List (List ℕ) → Bool
has_several names = nat_lt 1 (length names)

-- what stands before the number of a line
abbrev pub prefix_of : Bool → List ℕ → List ℕ
prefix_of several name = if several then name ++ codes ":" else []

-- The rows of a file's records.
abbrev pub claim_replies : Bool → ℕ → ℕ → List ℕ → List ℕ → List ℕ → ℕ → Type 0
claim_replies several bound from name input text unsound = IsReplyOn (IsClaimReply (prefix_of several name) bound) from input text unsound

abbrev pub first_claim_replies : Bool → ℕ → ℕ → List ℕ → List ℕ → List ℕ → Type 0
first_claim_replies several bound from name input text = IsReplyToFirstOn (IsClaimReply (prefix_of several name) bound) from input text

-- The same, where each record may take so long, and whether a search may be stopped at all.
abbrev pub limited_claim_replies : Type 0 → Bool → ℕ → ℕ → List ℕ → List ℕ → List ℕ → ℕ → Type 0
limited_claim_replies stops several bound from name input text unsound =
    IsReplyOn (IsLimitedClaim stops (prefix_of several name) bound) from input text unsound

-- The same, and how many records were not decided.
abbrev pub limited_claims_told : Type 0 → Bool → ℕ → ℕ → List ℕ → List ℕ → List ℕ → (unsound undecided : ℕ) → Type 0
limited_claims_told stops several bound from name input text unsound undecided =
    limited_claim_replies stops several bound from name input text unsound
    × IsReplyOn (IsLateClaim stops (prefix_of several name) bound) from input text undecided

abbrev pub first_limited_claim_replies : Type 0 → Bool → ℕ → ℕ → List ℕ → List ℕ → List ℕ → Type 0
first_limited_claim_replies stops several bound from name input text =
    IsReplyToFirstOn (IsLimitedClaim stops (prefix_of several name) bound) from input text

-- The rows of what the names hold, of the first of them from the line of such a number on, and whether a line of it isn't sound.
abbrev pub Verifies : (List ℕ → Option (List ℕ)) → ℕ → ℕ → List (List ℕ) → Bool → List ℕ → Type 0
Verifies holds bound from names unsound gained = Answers holds (claim_replies (has_several names) bound) from names unsound gained

-- The same, where each record may take so long: whether a line is known not to be sound, and how many records were not decided.
abbrev pub VerifiesInTime : (List ℕ → Option (List ℕ)) → Type 0 → ℕ → ℕ → List (List ℕ) → Bool → ℕ → List ℕ → Type 0
VerifiesInTime holds stops bound from names unsound undecided gained =
    AnswersTold holds (limited_claims_told stops (has_several names) bound) from names unsound undecided gained

-- What the output gained where the rows stop.
abbrev pub StopsVerifying : (List ℕ → Option (List ℕ)) → (List ℕ → Type 0) → ℕ → ℕ → List (List ℕ) → Stop → (old new : Option (List ℕ)) → Type 0
StopsVerifying holds refuses bound from names stop old new = StopsAnswering holds refuses
    (claim_replies (has_several names) bound) (first_claim_replies (has_several names) bound) from names stop old new

abbrev pub StopsVerifyingInTime : (List ℕ → Option (List ℕ)) → (List ℕ → Type 0) → Type 0 → ℕ → ℕ → List (List ℕ) → Stop
    → (old new : Option (List ℕ)) → Type 0
StopsVerifyingInTime holds refuses stops bound from names stop old new = StopsAnswering holds refuses
    (limited_claim_replies stops (has_several names) bound) (first_limited_claim_replies stops (has_several names) bound) from names stop old new

-- the first row, where it is asked for: the names of the fields
unfoldable pub header_text : Bool → List ℕ
header_text header = if header then codes "LINE\tVERDICT\tASKED\tFOUND\tKEYS\tCLAIMED\tID\n" else []

-- Behind it stand rows such as these.
abbrev pub Headed : Bool → (List ℕ → Type 0) → List ℕ → Type 0
Headed header Rows text = (rows : List ℕ) × (text ≡ header_text header ++ rows) × Rows rows

-- What `verify` shows, and whether a line isn't sound.
abbrev pub VerifiesHeaded : (List ℕ → Option (List ℕ)) → ℕ → Bool → ℕ → List (List ℕ) → Bool → List ℕ → Type 0
VerifiesHeaded holds bound header from names unsound gained = Headed header (Verifies holds bound from names unsound) gained

-- What `verify --limit` shows, whether a line is known not to be sound, and how many records were not decided.
abbrev pub LimitedHeaded : (List ℕ → Option (List ℕ)) → Type 0 → ℕ → Bool → ℕ → List (List ℕ) → Bool → ℕ → List ℕ → Type 0
LimitedHeaded holds stops bound header from names unsound undecided gained =
    Headed header (VerifiesInTime holds stops bound from names unsound undecided) gained

-- What the output gained where rows stop: as where the replies stop, behind the first row; where memory gives out perhaps nothing.
abbrev pub StopsRows : (List ℕ → Option (List ℕ)) → (List ℕ → Type 0) → FileReplies → FirstReplies → Bool → ℕ → List (List ℕ) → Stop
    → (old new : Option (List ℕ)) → Type 0
StopsRows holds refuses Replies First header from names NoMemory old new =
    Gains (λ text. (text ≡ []) ⊎ Headed header (AnswersFirst holds Replies First from names (λ _. ⊤)) text) old new
StopsRows holds refuses Replies First header from names Unreadable old new =
    Gains (Headed header (AnswersFirst holds Replies First from names (FirstRefused refuses))) old new
StopsRows holds refuses Replies First header from names Unwritable old new =
    GainsPart (Headed header (AnswersFirst holds Replies First from names (λ _. ⊤))) old new
StopsRows holds refuses Replies First header from names NoReader old new =
    GainsPart (Headed header (AnswersFirst holds Replies First from names (λ _. ⊤))) old new

-- What the output gained where `verify` stops.
abbrev pub StopsHeaded : (List ℕ → Option (List ℕ)) → (List ℕ → Type 0) → ℕ → Bool → ℕ → List (List ℕ) → Stop → (old new : Option (List ℕ)) → Type 0
StopsHeaded holds refuses bound header from names stop old new = StopsRows holds refuses
    (claim_replies (has_several names) bound) (first_claim_replies (has_several names) bound) header from names stop old new

-- What it gained where `verify --limit` does.
abbrev pub StopsLimitedHeaded : (List ℕ → Option (List ℕ)) → (List ℕ → Type 0) → Type 0 → ℕ → Bool → ℕ → List (List ℕ) → Stop → (old new : Option (List ℕ)) → Type 0
StopsLimitedHeaded holds refuses stops bound header from names stop old new = StopsRows holds refuses
    (limited_claim_replies stops (has_several names) bound) (first_limited_claim_replies stops (has_several names) bound) header from names stop old new

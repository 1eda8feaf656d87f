-- Not for believing: which lines replies that are not written yet are for, and what is written of them and counted. No contract of a public
-- call rests on it.
use Rattle.std.specs.Prelude.{◌≡◌, ◌<◌, ◌≤◌, ◌+◌, ◌++◌, ℕ, List, [], ◌∷◌, Option, None, length, map, false, ⊤}
use Rattle.byte_streams.specs.Stops.{AppendsBy}
use Rattle.byte_streams.specs.declared.stops.Stop.{Stop}
use Rattle.chess_notation.specs.Words.{is_blank}
use Rattle.text_lines.specs.Lines.{without_cr}
use Rattle.text_lines.specs.LinesFrom.{lines_from}
use Rattle.text_lines.specs.Replies.{IsReplyFrom, LineReplies}
use Rattle.text_lines.specs.inside.LinesFrom.{RepliesFrom}
use Rattle.parallel_answers.specs.declared.open_replies.OpenReply.{OpenReply}
use Rattle.parallel_answers.specs.declared.open_replies.OpenReply.TheVariants.{Said, Awaited}
use Rattle.parallel_answers.specs.declared.open_replies.OpenReplies.{OpenReplies}

-- ---- lines, each by its number and without its CR, of which those before that of a number are passed over

-- Which lines wait for an answer.
abbrev pub LineWaits : Type 1
LineWaits = ℕ → List ℕ → Type 0

abbrev pub WaitsFrom : (List ℕ → Type 0) → ℕ → LineWaits
WaitsFrom waits from number line = (from ≤ number) × waits line

-- What may be counted of them.
abbrev pub LineMarks : Type 0 → Type 1
LineMarks M = ℕ → List ℕ → Option M → Type 0

pub record MarksFrom {M : Type 0} (marks : List ℕ → Option M → Type 0) (from number : ℕ) (line : List ℕ) (mark : Option M) : Type 0 where
  -- of one that is passed over nothing
  pub passed : number < from → mark ≡ None
  -- of any other what somebody has found
  pub answered : from ≤ number → ∥ marks line mark ∥₁

-- What they are answered, which of them wait, and what may be counted of them.
pub record LineRules (M : Type 0) : Type 1 where
  pub replies : LineReplies
  pub waits : LineWaits
  pub marks : LineMarks M

abbrev pub rules_from : {M : Type 0} → LineReplies → (List ℕ → Type 0) → (List ℕ → Option M → Type 0) → ℕ → LineRules M
rules_from replies waits marks from =
    record { replies = RepliesFrom replies from; waits = WaitsFrom waits from; marks = MarksFrom marks from }

-- the same where none is passed over
abbrev pub rules_of : {M : Type 0} → LineReplies → (List ℕ → Type 0) → (List ℕ → Option M → Type 0) → LineRules M
rules_of replies waits marks = record { replies = replies; waits = λ _. waits; marks = λ _ line mark. ∥ marks line mark ∥₁ }

-- What a tally is known to be of, behind lines that were counted before.
abbrev pub TallyKnown : Type 0 → Type 1
TallyKnown Y = Y → (counted lines : List (List ℕ)) → Type 0

abbrev pub KnownFrom : {Y : Type 0} → (Y → List (List ℕ) → Type 0) → ℕ → TallyKnown Y
KnownFrom knows from tally counted lines = knows tally (counted ++ lines_from from lines)

-- The line of this number is counted behind those before it.
abbrev pub CountsOne : {Y : Type 0} → TallyKnown Y → ℕ → (old new : Y) → List ℕ → Type 0
CountsOne knows number old new line = (counted before : List (List ℕ)) → length before + 1 ≡ number → knows old counted before
    → knows new counted (before ++ without_cr line ∷ [])

-- ---- replies that are not written yet

-- A reply that is there is the line's; one that is awaited is that to a line which waits for an answer.
abbrev pub IsOpen : {M : Type 0} → LineRules M → ℕ → OpenReply M → List ℕ → Type 0
IsOpen rules number (Said reply) line =
    rules.replies number (without_cr line) reply.text.items reply.refused × rules.marks number (without_cr line) reply.mark
IsOpen rules number (Awaited text) line =
    (is_blank (without_cr line) ≡ false) × (text.items ≡ without_cr line) × rules.waits number (without_cr line)

-- Each is for the line of its place, the first of which is numbered so.
abbrev pub AreOpen : {M : Type 0} → LineRules M → ℕ → List (OpenReply M) → List (List ℕ) → Type 0
AreOpen rules number [] [] = ⊤
AreOpen rules number (reply ∷ replies) (line ∷ lines) = IsOpen rules number reply line × AreOpen rules (number + 1) replies lines
AreOpen rules number _ _ = ⊥

-- Of these lines first ones are answered by the text and counted, and the others are still open.
pub record GainsOf {M Y : Type 0} (rules : LineRules M) (knows : TallyKnown Y) (old new : OpenReplies M) (tally counts : Y) (text : List ℕ)
    (lines : List (List ℕ)) : Type 0 where
  pub done : List (List ℕ)
  pub rest : List (List ℕ)
  pub count : ℕ
  pub split : lines ≡ done ++ rest
  pub replies : IsReplyFrom rules.replies old.first done text count
  pub left : AreOpen rules new.first new.replies.items rest
  pub first : new.first ≡ old.first + length done
  pub refused : new.refused ≡ old.refused + count
  pub counted : (counted before : List (List ℕ)) → length before + 1 ≡ old.first → knows tally counted before
      → knows counts counted (before ++ map without_cr done)

-- the same, whichever lines they are for
unfoldable pub Gains : {M Y : Type 0} → LineRules M → TallyKnown Y → (old new : OpenReplies M) → (tally counts : Y) → List ℕ → Type 0
Gains rules knows old new tally counts text =
    (lines : List (List ℕ)) → AreOpen rules old.first old.replies.items lines → GainsOf rules knows old new tally counts text lines

-- What is written where that stops: the replies to first lines, or, where a write broke off, a first part of them.
unfoldable pub Breaks : {M : Type 0} → LineRules M → OpenReplies M → Stop → (before after : Option (List ℕ)) → Type 0
Breaks rules old stop before after = (text : List ℕ) × AppendsBy stop before after text
    × ((lines : List (List ℕ)) → AreOpen rules old.first old.replies.items lines
    → (done : List (List ℕ)) × (rest : List (List ℕ)) × (count : ℕ) × (lines ≡ done ++ rest) × IsReplyFrom rules.replies old.first done text count)

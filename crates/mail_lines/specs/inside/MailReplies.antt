-- Not for believing: what is written of the lines as which an input reads. No contract of a public call rests on it.
use Rattle.std.specs.Prelude.{◌≡◌, ◌≤◌, ◌+◌, ◌++◌, ℕ, Bool, List, [], ◌∷◌, Option, length, map}
use Rattle.std.specs.Io.KnownBytes.{Appends}
use Rattle.byte_streams.specs.Stops.{AppendsBy}
use Rattle.byte_streams.specs.declared.stops.Stop.{Stop}
use Rattle.text_lines.specs.Lines.{without_cr}
use Rattle.text_lines.specs.Replies.{IsReplyFrom, LineReplies, RepliesBehind, behind}
use Rattle.text_lines.specs.Writers.{BreaksOff, Follows, Knows, Replied}
use Rattle.text_lines.specs.inside.LinesFrom.{FollowsFrom, KnowsFrom, RepliesFrom}
use Rattle.text_lines.specs.declared.taken_lines.TakenLine.{TakenLine}
use Rattle.mail_lines.specs.declared.open_mails.OpenMail.{OpenMail}
use Rattle.mail_lines.specs.inside.OpenMails.{IsBehind, IsTextOf, Reading, ReadsFirst, behind_line, with_crs}

-- What lines are answered, and what goes from line to line.
pub record MailRules (M : Type 0) : Type 1 where
  pub replies : LineReplies
  pub knows : M → List (List ℕ) → Type 0
  pub follows : RepliesBehind

abbrev pub rules_of : {M : Type 0} → LineReplies → (M → List (List ℕ) → Type 0) → RepliesBehind → MailRules M
rules_of replies knows follows = record { replies = replies; knows = knows; follows = follows }

-- the same where the lines before that of a number are passed over
abbrev pub rules_from : {M : Type 0} → LineReplies → (M → List (List ℕ) → Type 0) → RepliesBehind → ℕ → MailRules M
rules_from replies knows follows from =
    record { replies = RepliesFrom replies from; knows = KnowsFrom knows from; follows = FollowsFrom follows from }

-- The reply to one line is written.
abbrev pub IsWritten : {M : Type 0} → MailRules M → ℕ → List ℕ → (old new : M) → (before after : Option (List ℕ)) → ℕ → Type 0
IsWritten rules number line old new before after =
    Replied (λ text count. rules.replies number line text count × Knows rules.knows (λ lines. rules.follows lines number) number line old new text count)
    before after

-- It stops with the reply to one line.
abbrev pub BreaksIn : {M : Type 0} → MailRules M → ℕ → List ℕ → M → (before after : Option (List ℕ)) → Stop → Type 0
BreaksIn rules number line old before after =
    BreaksOff (λ text count. rules.replies number line text count × Follows rules.knows (λ lines. rules.follows lines number) number line old text count)
    before after

-- The replies to these first lines are written.
pub record AreWritten {M : Type 0} (rules : MailRules M) (old new : M) (before after : Option (List ℕ)) (lines : List (List ℕ)) (refused : ℕ)
    : Type 0 where
  pub text : List ℕ
  pub replies : IsReplyFrom rules.replies 1 lines text refused
  pub follows : rules.knows old [] → IsReplyFrom (behind rules.follows (map without_cr lines)) 1 lines text refused
      × rules.knows new (map without_cr lines)
  pub appends : Appends before after text
  pub few : refused ≤ length lines

-- It stops with the replies to some of the first of these lines.
pub record BreakIn {M : Type 0} (rules : MailRules M) (old : M) (stop : Stop) (before after : Option (List ℕ)) (lines : List (List ℕ))
    : Type 0 where
  pub done : List (List ℕ)
  pub more : List (List ℕ)
  pub text : List ℕ
  pub refused : ℕ
  pub split : lines ≡ done ++ more
  pub replies : IsReplyFrom rules.replies 1 done text refused
  pub follows : rules.knows old [] → IsReplyFrom (behind rules.follows (map without_cr done)) 1 done text refused
  pub appends : AppendsBy stop before after text

-- A blank line is answered with nothing.
pub record SkipBlanks {M : Type 0} (rules : MailRules M) : Type 0 where
  pub replies : (number : ℕ) → rules.replies number [] [] 0
  pub follows : (lines : List (List ℕ)) (number : ℕ) → rules.follows lines number [] [] 0
  pub knows : (memory : M) (lines : List (List ℕ)) → rules.knows memory lines → rules.knows memory (lines ++ [] ∷ [])

-- ---- a step, whatever is written before it

-- What is written and read before a line is taken with this number, and behind it.
abbrev pub TakesOn : {M : Type 0} → MailRules M → TakenLine → ℕ → (was : Option OpenMail) → (was_headed : Bool) → (is : Option OpenMail)
    → (is_headed : Bool) → (old new : M) → (before after : Option (List ℕ)) → ℕ → Type 0
TakesOn {M} rules line number was was_headed is is_headed old new before after more = (text : List ℕ) → IsTextOf line text
    → (reading : Reading) (lines : List (List ℕ)) (first : M) (start : Option (List ℕ)) (refused : ℕ) → IsBehind was was_headed number reading lines
    → AreWritten rules first old start before (with_crs lines) refused
    → (now : List (List ℕ)) × IsBehind is is_headed (number + 1) (behind_line text reading) now
    × AreWritten rules first new start after (with_crs now) (refused + more)

-- It stops there.
abbrev pub StopsOn : {M : Type 0} → MailRules M → TakenLine → ℕ → (was : Option OpenMail) → (was_headed : Bool) → M
    → (before after : Option (List ℕ)) → Stop → Type 0
StopsOn {M} rules line number was was_headed old before after stop = (text : List ℕ) → IsTextOf line text
    → (reading : Reading) (lines : List (List ℕ)) (first : M) (start : Option (List ℕ)) (refused : ℕ) → IsBehind was was_headed number reading lines
    → AreWritten rules first old start before (with_crs lines) refused
    → (now : List (List ℕ)) × ReadsFirst (behind_line text reading) now × BreakIn rules first stop start after (with_crs now)

-- The same behind the last line.
abbrev pub EndsWith : {M : Type 0} → MailRules M → Option OpenMail → (old new : M) → (before after : Option (List ℕ)) → ℕ → Type 0
EndsWith {M} rules was old new before after more = (was_headed : Bool) (number : ℕ) (reading : Reading) (lines : List (List ℕ))
    (first : M) (start : Option (List ℕ)) (refused : ℕ) → IsBehind was was_headed number reading lines
    → AreWritten rules first old start before (with_crs lines) refused
    → AreWritten rules first new start after (with_crs (reading [])) (refused + more)

abbrev pub StopsAtEnd : {M : Type 0} → MailRules M → Option OpenMail → M → (before after : Option (List ℕ)) → Stop → Type 0
StopsAtEnd {M} rules was old before after stop = (was_headed : Bool) (number : ℕ) (reading : Reading) (lines : List (List ℕ))
    (first : M) (start : Option (List ℕ)) (refused : ℕ) → IsBehind was was_headed number reading lines
    → AreWritten rules first old start before (with_crs lines) refused
    → BreakIn rules first stop start after (with_crs (reading []))

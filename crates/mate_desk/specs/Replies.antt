-- The reply to each step is fixed by what happened before it (own to this project).
use Rattle.std.specs.Prelude.{◌≡◌, ◌≢◌, ◌⊎◌, ℕ, zero, suc, ◌+◌, ◌==◌, nat_lt, nat_le, Bool, true, false, not, ◌&&◌}
use Rattle.std.specs.Prelude.{if◌then◌else◌, List, [], ◌∷◌, length, flat_map, slice_get, Option, Some, None}
use Rattle.std.specs.List.{list_all}
use Rattle.chess_notation.specs.Records.{RecordValue, Reads}
use Rattle.chess_notation.specs.EpdFaults.{IsFaultOf}
use Rattle.chess_notation.specs.declared.epd_faults.EpdFault.{EpdFault}
use Rattle.chess_notation.specs.declared.epd_faults.EpdFault.TheVariants.{NoMemory}
use Rattle.mate_jobs.specs.Jobs.{answer_to}
use Rattle.mate_desk.specs.Content.{Phase, Waiting, Out, Finished, is_waiting, lower}
use Rattle.mate_desk.specs.declared.refusals.SubmitRefusal.TheVariants as submit
use Rattle.mate_desk.specs.declared.refusals.WithdrawRefusal.TheVariants as withdraw
use Rattle.mate_desk.specs.declared.steps_and_replies.Step.{Step}
use Rattle.mate_desk.specs.declared.steps_and_replies.Step.TheVariants.{Submit, Take, Finish, HandBack, Collect, Withdraw, Drained, Close}
use Rattle.mate_desk.specs.declared.steps_and_replies.Reply.{Reply}
use Rattle.mate_desk.specs.declared.steps_and_replies.Reply.TheVariants as reply
use Rattle.mate_desk.specs.History.{History, Claim, accepted, delivered, phase, withdrawn, hand, count_accepted, closed, pending}

-- so many numbers, from k on
abbrev pub from : ℕ → ℕ → List ℕ
from k zero = []
from k (suc n) = k ∷ from (k + 1) n

-- the tickets that wait among these records, the first of which is the j-th: those that are neither out nor finished nor withdrawn
abbrev pub waiting_among : (ℕ → Phase) → (ℕ → Bool) → ℕ → List Claim → List ℕ
waiting_among phases marks j [] = []
waiting_among phases marks j (claim ∷ claims) =
    if is_waiting (phases claim.ticket) && not (marks j) then claim.ticket ∷ waiting_among phases marks (j + 1) claims
    else waiting_among phases marks (j + 1) claims

-- the tickets that wait, of n submitters
abbrev pub waiting : ℕ → History → List ℕ
waiting n h = flat_map (λ s. waiting_among (phase h) (withdrawn h s) 0 (accepted h s)) (from 0 n)

-- the least of these
abbrev pub least : List ℕ → Option ℕ
least [] = None
least (t ∷ ts) = lower t (least ts)

-- No record is pending, and no job is in hand.
abbrev pub drained : ℕ → History → Bool
drained n h = list_all (λ s. pending h s == 0) (from 0 n) && (length (hand h) == 0)

-- to a record
abbrev pub submit_reply : ℕ → ℕ → History → ℕ → Reply
submit_reply n room h s =
    if nat_le n s then reply.Refused submit.NoSuchSubmitter
    else (if closed h then reply.Refused submit.Closed
    else (if nat_le room (pending h s) then reply.Refused submit.Full
    else reply.Ticket (count_accepted h)))

-- To a line: it says no record and has this fault; or it says one, and memory for the operations that it keeps was refused, or it
-- is handed in.
abbrev pub IsSubmitReply : ℕ → ℕ → ℕ → History → ℕ → List ℕ → Reply → Type 0
IsSubmitReply n room default h s line r =
    ((fault : EpdFault) × IsFaultOf line fault × (r ≡ reply.BadRecord fault))
    ⊎ ((asked : RecordValue) × Reads line default asked × (((asked.rest ≢ []) × (r ≡ reply.BadRecord NoMemory)) ⊎ (r ≡ submit_reply n room h s)))

-- to a step that takes, finishes or hands back, where this ticket is the one, or where there is none
abbrev pub take_reply : Option ℕ → Reply
take_reply None = reply.Nothing
take_reply (Some t) = reply.Job t

abbrev pub finish_reply : Option ℕ → Reply
finish_reply None = reply.NoJob
finish_reply (Some t) = reply.Done t

abbrev pub back_reply : Option ℕ → Reply
back_reply None = reply.NoJob
back_reply (Some t) = reply.Back t

-- to a submitter whose first pending record is this one: whether it is withdrawn, its phase, and what it is
abbrev pub IsOwed : ℕ → Bool → Phase → Claim → Reply → Type 0
IsOwed default true Waiting claim r = r ≡ reply.Notice claim.ticket
IsOwed default true Out claim r = r ≡ reply.Empty
IsOwed default true Finished claim r = r ≡ reply.Notice claim.ticket
IsOwed default false Waiting claim r = r ≡ reply.Empty
IsOwed default false Out claim r = r ≡ reply.Empty
IsOwed default false Finished claim r = (asked : RecordValue) × Reads claim.line default asked × (r ≡ reply.Answer (answer_to asked))

-- where it has one at all
abbrev pub IsFirstOwed : ℕ → History → ℕ → Option Claim → Reply → Type 0
IsFirstOwed default h s None r = r ≡ reply.Empty
IsFirstOwed default h s (Some claim) r = IsOwed default (withdrawn h s (length (delivered h s))) (phase h claim.ticket) claim r

-- where it is a submitter
abbrev pub IsCollectReplyBy : Bool → ℕ → History → ℕ → Reply → Type 0
IsCollectReplyBy false default h s r = r ≡ reply.NoSuchSubmitter
IsCollectReplyBy true default h s r = IsFirstOwed default h s (slice_get (accepted h s) (length (delivered h s))) r

abbrev pub IsCollectReply : ℕ → ℕ → History → ℕ → Reply → Type 0
IsCollectReply n default h s r = IsCollectReplyBy (nat_lt s n) default h s r

abbrev pub withdraw_reply : ℕ → History → ℕ → ℕ → Reply
withdraw_reply n h s j =
    if nat_le n s then reply.NotWithdrawn withdraw.NoSuchSubmitter
    else (if nat_le (length (accepted h s)) j then reply.NotWithdrawn withdraw.NotAccepted
    else (if nat_lt j (length (delivered h s)) then reply.NotWithdrawn withdraw.Delivered
    else (if withdrawn h s j then reply.NotWithdrawn withdraw.Withdrawn
    else reply.Withdrawn)))

-- The reply to a step after this history, at a desk of n submitters with this room each. A line that asks for no bound itself is
-- read with the default.
abbrev pub IsReplyTo : ℕ → ℕ → ℕ → History → Step → Reply → Type 0
IsReplyTo n room default h (Submit s line) r = IsSubmitReply n room default h s line.items r
IsReplyTo n room default h Take r = r ≡ take_reply (least (waiting n h))
IsReplyTo n room default h (Finish i) r = r ≡ finish_reply (slice_get (hand h) i)
IsReplyTo n room default h (HandBack i) r = r ≡ back_reply (slice_get (hand h) i)
IsReplyTo n room default h (Collect s) r = IsCollectReply n default h s r
IsReplyTo n room default h (Withdraw s j) r = r ≡ withdraw_reply n h s j
IsReplyTo n room default h Drained r = r ≡ reply.Drained (drained n h)
IsReplyTo n room default h Close r = r ≡ reply.Closed

-- Each reply is one that the history before it fixes.
unfoldable pub AreReplies : ℕ → ℕ → ℕ → History → Type 0
AreReplies n room default [] = Unit {0}
AreReplies n room default (e ∷ h) = IsReplyTo n room default h e.step e.reply × AreReplies n room default h

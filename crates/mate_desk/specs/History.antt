-- What happened at a desk: the steps that were made, and the reply to each. All else is read out of these (own to this project).
use Rattle.std.specs.Prelude.{ℕ, ◌+◌, ◌-◌, ◌==◌, Bool, true, false, not, ◌&&◌, ◌||◌, if◌then◌else◌, List, [], ◌∷◌, ◌++◌, length, filter}
use Rattle.mate_jobs.specs.Jobs.{AnswerValue}
use Rattle.mate_desk.specs.Content.{Phase, Waiting, Out, Finished}
use Rattle.mate_desk.specs.declared.steps_and_replies.Step.{Step}
use Rattle.mate_desk.specs.declared.steps_and_replies.Step.TheVariants.{Submit, Collect, Withdraw, Close}
use Rattle.mate_desk.specs.declared.steps_and_replies.Reply.{Reply}
use Rattle.mate_desk.specs.declared.steps_and_replies.Reply.TheVariants as reply

pub record Event : Type 0 where
  pub step : Step
  pub reply : Reply

-- A history has its newest event first, so that what was before it is its tail.
abbrev pub History : Type 0
History = List Event

abbrev pub past_onto : History → List Step → List Reply → History
past_onto h [] rs = h
past_onto h (s ∷ ss) [] = h
past_onto h (s ∷ ss) (r ∷ rs) = past_onto (record { step = s; reply = r } ∷ h) ss rs

-- the history of these steps and their replies, both in order
abbrev pub past : List Step → List Reply → History
past ss rs = past_onto [] ss rs

-- a record that was accepted: its ticket, and the line that says it
pub record Claim : Type 0 where
  pub ticket : ℕ
  pub line : List ℕ

abbrev pub and_claimed : Step → Reply → ℕ → List Claim → List Claim
and_claimed (Submit n line) (reply.Ticket t) s claims = if s == n then claims ++ record { ticket = t; line = line.items } ∷ [] else claims
and_claimed _ _ s claims = claims

-- the records that were accepted from a submitter, in order
abbrev pub accepted : History → ℕ → List Claim
accepted [] s = []
accepted (e ∷ h) s = and_claimed e.step e.reply s (accepted h s)

-- what a submitter got: the answer to a record, or the notice of a ticket
pub data Parcel : Type 0 where
  Answered : AnswerValue → Parcel
  Noticed : ℕ → Parcel

abbrev pub is_notice : Parcel → Bool
is_notice (Answered answer) = false
is_notice (Noticed t) = true

abbrev pub and_got : Step → Reply → ℕ → List Parcel → List Parcel
and_got (Collect n) (reply.Answer answer) s parcels = if s == n then parcels ++ Answered answer ∷ [] else parcels
and_got (Collect n) (reply.Notice t) s parcels = if s == n then parcels ++ Noticed t ∷ [] else parcels
and_got _ _ s parcels = parcels

-- what was delivered to a submitter, in order
abbrev pub delivered : History → ℕ → List Parcel
delivered [] s = []
delivered (e ∷ h) s = and_got e.step e.reply s (delivered h s)

abbrev pub phase_by : Reply → ℕ → Phase → Phase
phase_by (reply.Ticket u) t p = if t == u then Waiting else p
phase_by (reply.Back u) t p = if t == u then Waiting else p
phase_by (reply.Job u) t p = if t == u then Out else p
phase_by (reply.Done u) t p = if t == u then Finished else p
phase_by _ t p = p

-- whether a ticket waits, is out or is finished, by the last reply that says so of it
abbrev pub phase : History → ℕ → Phase
phase [] t = Waiting
phase (e ∷ h) t = phase_by e.reply t (phase h t)

abbrev pub withdraws : Step → Reply → ℕ → ℕ → Bool
withdraws (Withdraw n k) reply.Withdrawn s j = (s == n) && (j == k)
withdraws _ _ s j = false

-- The j-th accepted record of a submitter was withdrawn.
abbrev pub withdrawn : History → ℕ → ℕ → Bool
withdrawn [] s j = false
withdrawn (e ∷ h) s j = withdraws e.step e.reply s j || withdrawn h s j

abbrev pub without : ℕ → List ℕ → List ℕ
without t ts = filter (λ u. not (u == t)) ts

abbrev pub hand_by : Reply → List ℕ → List ℕ
hand_by (reply.Job t) ts = ts ++ t ∷ []
hand_by (reply.Done t) ts = without t ts
hand_by (reply.Back t) ts = without t ts
hand_by _ ts = ts

-- the tickets of the jobs in hand, in the order of taking
abbrev pub hand : History → List ℕ
hand [] = []
hand (e ∷ h) = hand_by e.reply (hand h)

abbrev pub is_ticket : Reply → Bool
is_ticket (reply.Ticket t) = true
is_ticket _ = false

-- how many records were accepted, of all submitters together
abbrev pub count_accepted : History → ℕ
count_accepted [] = 0
count_accepted (e ∷ h) = if is_ticket e.reply then count_accepted h + 1 else count_accepted h

abbrev pub closes : Step → Bool
closes Close = true
closes _ = false

-- It was closed.
abbrev pub closed : History → Bool
closed [] = false
closed (e ∷ h) = closes e.step || closed h

-- how many records of a submitter are pending
abbrev pub pending : History → ℕ → ℕ
pending h s = length (accepted h s) - length (delivered h s)

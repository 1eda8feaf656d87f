-- Not for believing: the content of a desk, and the jobs in hand, are what the history says. No contract of a public call rests on it.
use Rattle.std.specs.Prelude.{◌≡◌, ℕ, ◌+◌, ◌<◌, ◌≤◌, ◌==◌, Bool, true, false, ◌||◌, ◌&&◌, List, [], ◌∷◌, length, map, take, drop}
use Rattle.std.specs.List.{list_any}
use Rattle.chess_notation.specs.Records.{RecordValue, Reads}
use Rattle.mate_jobs.specs.Jobs.{Task}
use Rattle.mate_desk.specs.Content.{Content, QueueValue, EntryValue, Phase, is_finished}
use Rattle.mate_desk.specs.Calls.{has_out}
use Rattle.mate_desk.specs.History.{History, Claim, Parcel, accepted, delivered, phase, withdrawn, hand, count_accepted, closed, is_notice}
use Rattle.mate_desk.specs.Replies.{from, AreReplies}
use Rattle.mate_desk.specs.declared.steps_and_replies.Step.{Step}
use Rattle.mate_desk.specs.declared.steps_and_replies.Reply.{Reply}
use Rattle.mate_desk.specs.Headline.{AreForFirst}

-- how a submitter's j-th accepted record stands: what tickets ask, their phases, and the withdrawn places
abbrev pub entry_at : (ℕ → RecordValue) → (ℕ → Phase) → (ℕ → Bool) → ℕ → Claim → EntryValue
entry_at asks phases marks j claim = record { ticket = claim.ticket; asked = asks claim.ticket; phase = phases claim.ticket; withdrawn = marks j }

-- how its accepted records stand, from the j-th on
abbrev pub entries_from : (ℕ → RecordValue) → (ℕ → Phase) → (ℕ → Bool) → ℕ → List Claim → List EntryValue
entries_from asks phases marks j [] = []
entries_from asks phases marks j (claim ∷ claims) = entry_at asks phases marks j claim ∷ entries_from asks phases marks (j + 1) claims

-- a queue, so many of whose records were delivered
abbrev pub queue_with : (ℕ → RecordValue) → ℕ → List Claim → ℕ → (ℕ → Phase) → (ℕ → Bool) → QueueValue
queue_with asks room claims done phases marks =
    record { room = room; delivered = done; pending = entries_from asks phases marks done (drop done claims) }

-- the queue of a submitter
abbrev pub queue_of : (ℕ → RecordValue) → ℕ → History → ℕ → QueueValue
queue_of asks room h s = queue_with asks room (accepted h s) (length (delivered h s)) (phase h) (withdrawn h s)

-- Their tickets are below this one.
abbrev pub AreClaimsBelow : ℕ → List Claim → Type 0
AreClaimsBelow high [] = Unit {0}
AreClaimsBelow high (claim ∷ claims) = (claim.ticket < high) × AreClaimsBelow high claims

-- Their lines say what their tickets ask.
abbrev pub AreRead : ℕ → (ℕ → RecordValue) → List Claim → Type 0
AreRead default asks [] = Unit {0}
AreRead default asks (claim ∷ claims) = Reads claim.line default (asks claim.ticket) × AreRead default asks claims

-- These records, the first of which is the j-th, wait no more and never will again.
abbrev pub are_settled : (ℕ → Phase) → (ℕ → Bool) → ℕ → List Claim → Bool
are_settled phases marks j [] = true
are_settled phases marks j (claim ∷ claims) = (marks j || is_finished (phases claim.ticket)) && are_settled phases marks (j + 1) claims

-- In these places, from the j-th on, a notice stands exactly where one is marked.
abbrev pub AreNoticesMarked : (ℕ → Bool) → ℕ → List Parcel → Type 0
AreNoticesMarked marks j [] = Unit {0}
AreNoticesMarked marks j (parcel ∷ parcels) = (is_notice parcel ≡ marks j) × AreNoticesMarked marks (j + 1) parcels

-- what is so of one submitter
pub record Sound (room default : ℕ) (asks : ℕ → RecordValue) (claims : List Claim) (parcels : List Parcel) (next : ℕ)
    (phases : ℕ → Phase) (marks : ℕ → Bool) : Type 0 where
  pub few : length parcels ≤ length claims
  pub fits : length claims ≤ length parcels + room
  pub below : AreClaimsBelow next claims
  pub read : AreRead default asks claims
  pub unmarked : (j : ℕ) → length claims ≤ j → marks j ≡ false
  pub settled : are_settled phases marks 0 (take (length parcels) claims) ≡ true
  pub in_order : AreForFirst default claims parcels
  pub notices : AreNoticesMarked marks 0 parcels

-- No ticket stands twice.
abbrev pub AreApart : List ℕ → Type 0
AreApart [] = Unit {0}
AreApart (t ∷ ts) = (list_any (λ u. u == t) ts ≡ false) × AreApart ts

-- Each of these jobs is out.
abbrev pub AreOut : Content → List Task → Type 0
AreOut c [] = Unit {0}
AreOut c (job ∷ jobs) = (has_out c job ≡ true) × AreOut c jobs

-- a desk and the jobs in hand after this history, where tickets ask this
pub record MirrorsBy (asks : ℕ → RecordValue) (n room default : ℕ) (h : History) (c : Content) (jobs : List Task) : Type 0 where
  pub queues : c.queues ≡ map (queue_of asks room h) (from 0 n)
  pub next : c.next ≡ count_accepted h
  pub shut : c.closed ≡ closed h
  pub fixed : AreReplies n room default h
  pub sound : (s : ℕ) → Sound room default asks (accepted h s) (delivered h s) (count_accepted h) (phase h) (withdrawn h s)
  pub nobody : (s : ℕ) → n ≤ s → accepted h s ≡ []
  pub tickets : hand h ≡ map (λ j. j.ticket) jobs
  pub apart : AreApart (hand h)
  pub out : AreOut c jobs

-- The same, whatever tickets ask.
abbrev pub Mirrors : ℕ → ℕ → ℕ → History → Content → List Task → Type 0
Mirrors n room default h c jobs = (asks : ℕ → RecordValue) × MirrorsBy asks n room default h c jobs

-- what a step does, whatever came before
abbrev pub Makes : ℕ → Step → Reply → Content → List Task → Content → List Task → Type 0
Makes default step reply c jobs d left = (n room : ℕ) (h : History) → Mirrors n room default h c jobs
    → Mirrors n room default (record { step = step; reply = reply } ∷ h) d left

-- It holds at each moment so far.
unfoldable pub AtEachMoment : (History → Type 0) → History → Type 0
AtEachMoment P [] = P []
AtEachMoment P (e ∷ h) = P (e ∷ h) × AtEachMoment P h

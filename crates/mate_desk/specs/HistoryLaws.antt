-- What the readings of a history are meant to say.
use Rattle.std.specs.Prelude.{◌≡◌, ◌↔◌, ℕ, Vec, true, false, ◌∷◌, ◌++◌, length, count_by, slice_get, Some, Bool, ◌==◌}
use Rattle.std.specs.List.{list_any}
use Rattle.std.specs.declared.alloc.Global.{Global}
use Rattle.mate_jobs.specs.Jobs.{AnswerValue}
use Rattle.mate_desk.specs.Content.{Out, Finished}
use Rattle.mate_desk.specs.declared.steps_and_replies.Step.{Step}
use Rattle.mate_desk.specs.declared.steps_and_replies.Step.TheVariants as step
use Rattle.mate_desk.specs.declared.steps_and_replies.Reply.{Reply}
use Rattle.mate_desk.specs.declared.steps_and_replies.Reply.TheVariants as reply
use Rattle.mate_desk.specs.History.{History, Event, Claim, accepted, Answered, Noticed, delivered}
use Rattle.mate_desk.specs.History.{phase, withdrawn, hand, is_ticket, count_accepted, closed}

-- The step was made with this reply, after this history.
abbrev pub WasMade : History → Step → Reply → History → Type 0
WasMade h s r before = (later : History) × (h ≡ later ++ record { step = s; reply = r } ∷ before)

-- The k-th accepted record of a submitter, counted from 0, is the one that it handed in when k of its records had been accepted, in a
-- step whose reply is a ticket.
abbrev pub AcceptedReads : Type 0
AcceptedReads = (h : History) (s k : ℕ) (claim : Claim) → (slice_get (accepted h s) k ≡ Some claim) ↔
    ((before : History) × (text : Vec ℕ Global) × WasMade h (step.Submit s text) (reply.Ticket claim.ticket) before
    × (text.items ≡ claim.line) × (length (accepted before s) ≡ k))

-- The k-th thing that a submitter got is the answer, or the notice, in the reply to the step in which it collected when it had got k.
abbrev pub DeliveredReads : Type 0
DeliveredReads = (h : History) (s k : ℕ)
    → ((answer : AnswerValue) → (slice_get (delivered h s) k ≡ Some (Answered answer)) ↔
    ((before : History) × WasMade h (step.Collect s) (reply.Answer answer) before × (length (delivered before s) ≡ k)))
    × ((t : ℕ) → (slice_get (delivered h s) k ≡ Some (Noticed t)) ↔
    ((before : History) × WasMade h (step.Collect s) (reply.Notice t) before × (length (delivered before s) ≡ k)))

-- A record was withdrawn where the step that withdraws it was answered so.
abbrev pub WithdrawnReads : Type 0
WithdrawnReads = (h : History) (s j : ℕ) → (withdrawn h s j ≡ true) ↔ ((before : History) × WasMade h (step.Withdraw s j) reply.Withdrawn before)

-- The desk was closed where a step closed it.
abbrev pub ClosedReads : Type 0
ClosedReads = (h : History) → (closed h ≡ true) ↔ ((before : History) × (r : Reply) × WasMade h step.Close r before)

-- So many records were accepted as replies are tickets.
abbrev pub CountReads : Type 0
CountReads = (h : History) → count_accepted h ≡ count_by (λ e. is_ticket e.reply) h

-- The reply says a phase of the ticket.
abbrev pub says_by : Reply → ℕ → Bool
says_by (reply.Ticket u) t = t == u
says_by (reply.Back u) t = t == u
says_by (reply.Job u) t = t == u
says_by (reply.Done u) t = t == u
says_by _ t = false

abbrev pub says_phase : ℕ → Event → Bool
says_phase t e = says_by e.reply t

-- In these events no reply says a phase of the ticket.
abbrev pub NoneSays : ℕ → History → Type 0
NoneSays t later = list_any (says_phase t) later ≡ false

-- The last reply that says a phase of the ticket is this one.
abbrev pub IsLast : ℕ → Reply → History → Type 0
IsLast t r h = (later : History) × (s : Step) × (before : History) × (h ≡ later ++ record { step = s; reply = r } ∷ before) × NoneSays t later

-- A ticket is out where the last reply that says its phase is its job, and finished where that is that its job was done. Else it waits.
abbrev pub PhaseReads : Type 0
PhaseReads = (h : History) (t : ℕ) → ((phase h t ≡ Out) ↔ IsLast t (reply.Job t) h) × ((phase h t ≡ Finished) ↔ IsLast t (reply.Done t) h)

abbrev pub puts_down_by : Reply → ℕ → Bool
puts_down_by (reply.Done u) t = t == u
puts_down_by (reply.Back u) t = t == u
puts_down_by _ t = false

-- The job of the ticket was finished or handed back.
abbrev pub puts_down : ℕ → Event → Bool
puts_down t e = puts_down_by e.reply t

-- A job is in hand where it was taken, and since then neither finished nor handed back.
abbrev pub HandReads : Type 0
HandReads = (h : History) (t : ℕ) → (list_any (λ u. u == t) (hand h) ≡ true) ↔
    ((later : History) × (s : Step) × (before : History) × (h ≡ later ++ record { step = s; reply = reply.Job t } ∷ before)
    × (list_any (puts_down t) later ≡ false))

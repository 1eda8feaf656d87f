-- What the calls of a desk answer, and what they leave behind.
use Rattle.std.specs.Prelude.{ℕ, zero, suc, ◌+◌, ◌-◌, ◌^◌, ◌==◌, nat_lt, nat_le, Bool, true, false, if◌then◌else◌}
use Rattle.std.specs.Prelude.{List, [], ◌∷◌, ◌++◌, length, map, drop, replicate, slice_get, Option, None, Some}
use Rattle.std.specs.List.{list_any, list_all}
use Rattle.chess_notation.specs.Records.{RecordValue}
use Rattle.mate_jobs.specs.Jobs.{Task}
use Rattle.mate_desk.specs.Content.{Content, QueueValue, EntryValue, Phase, Waiting, Out, entries, is_ready, waits_as, is_out_with}
use Rattle.mate_desk.specs.declared.refusals.SubmitRefusal.{SubmitRefusal}
use Rattle.mate_desk.specs.declared.refusals.SubmitRefusal.TheVariants as submit
use Rattle.mate_desk.specs.declared.refusals.WithdrawRefusal.{WithdrawRefusal}
use Rattle.mate_desk.specs.declared.refusals.WithdrawRefusal.TheVariants as withdraw

-- a new desk
abbrev pub empty : ℕ → ℕ → ℕ → Content
empty submitters room first =
    record { queues = replicate submitters (record { room = room; delivered = 0; pending = [] }); next = first; closed = false }

-- the n-th element changed so; nothing where there is no n-th
abbrev pub change_at : {A : Type 0} → ℕ → (A → A) → List A → List A
change_at n f [] = []
change_at zero f (x ∷ xs) = f x ∷ xs
change_at (suc n) f (x ∷ xs) = x ∷ change_at n f xs

-- one submitter changed so
abbrev pub with_queue : ℕ → (QueueValue → QueueValue) → Content → Content
with_queue s f c = record { queues = change_at s f c.queues; next = c.next; closed = c.closed }

-- each pending record changed so, of a submitter and of all
abbrev pub in_queue : (EntryValue → EntryValue) → QueueValue → QueueValue
in_queue f q = record { room = q.room; delivered = q.delivered; pending = map f q.pending }

abbrev pub everywhere : (EntryValue → EntryValue) → Content → Content
everywhere f c = record { queues = map (in_queue f) c.queues; next = c.next; closed = c.closed }

-- what passes the test comes into this phase
abbrev pub into_phase : (EntryValue → Bool) → Phase → EntryValue → EntryValue
into_phase test phase e = if test e then record { ticket = e.ticket; asked = e.asked; phase = phase; withdrawn = e.withdrawn } else e

-- The first reason that applies why a submitter's record is refused: there is no such submitter, the desk is closed, the submitter
-- has as many pending as it may, or the next ticket is the one that is never given.
abbrev pub submit_refusal_by : Bool → ℕ → Option QueueValue → Option SubmitRefusal
submit_refusal_by closed next None = Some submit.NoSuchSubmitter
submit_refusal_by closed next (Some q) =
    if closed then Some submit.Closed
    else (if nat_le q.room (length q.pending) then Some submit.Full
    else (if next == 2 ^ 64 - 1 then Some submit.Exhausted
    else None))

abbrev pub submit_refusal : Content → ℕ → Option SubmitRefusal
submit_refusal c s = submit_refusal_by c.closed c.next (slice_get c.queues s)

-- A record is accepted: it waits, behind the others of its submitter, under the next ticket.
abbrev pub with_entry : ℕ → RecordValue → QueueValue → QueueValue
with_entry ticket asked q = record {
  room = q.room;
  delivered = q.delivered;
  pending = q.pending ++ record { ticket = ticket; asked = asked; phase = Waiting; withdrawn = false } ∷ [];
}

abbrev pub after_submit : Content → ℕ → RecordValue → Content
after_submit c s asked = record { queues = change_at s (with_entry c.next asked) c.queues; next = c.next + 1; closed = c.closed }

-- The record that waits as this job is out.
abbrev pub after_take : Content → Task → Content
after_take c task = everywhere (into_phase (waits_as task) Out) c

-- Some record is out with this job.
abbrev pub has_out : Content → Task → Bool
has_out c task = list_any (is_out_with task) (entries c)

-- The record that is out with this job comes into this phase.
abbrev pub after_return : Content → Task → Phase → Content
after_return c task phase = everywhere (into_phase (is_out_with task) phase) c

-- the first of these, where it may be collected
abbrev pub ready_first : List EntryValue → Option EntryValue
ready_first [] = None
ready_first (e ∷ es) = if is_ready e then Some e else None

abbrev pub ready_of : Option QueueValue → Option EntryValue
ready_of None = None
ready_of (Some q) = ready_first q.pending

-- the first pending record of a submitter, where it may be collected
abbrev pub ready : Content → ℕ → Option EntryValue
ready c s = ready_of (slice_get c.queues s)

-- That record was delivered and is pending no more.
abbrev pub collected_by : Option EntryValue → QueueValue → QueueValue
collected_by None q = q
collected_by (Some e) q = record { room = q.room; delivered = q.delivered + 1; pending = drop 1 q.pending }

abbrev pub collected : QueueValue → QueueValue
collected q = collected_by (ready_first q.pending) q

abbrev pub after_collect : Content → ℕ → Content
after_collect c s = with_queue s collected c

-- The first reason that applies why the n-th accepted record of a submitter is not withdrawn, counted from 0: there is no such
-- submitter, it was not accepted, it was delivered, or it was withdrawn.
abbrev pub withdraw_refusal_by : Option EntryValue → Option WithdrawRefusal
withdraw_refusal_by None = None
withdraw_refusal_by (Some e) = if e.withdrawn then Some withdraw.Withdrawn else None

abbrev pub withdraw_refusal_of : Option QueueValue → ℕ → Option WithdrawRefusal
withdraw_refusal_of None n = Some withdraw.NoSuchSubmitter
withdraw_refusal_of (Some q) n =
    if nat_le (q.delivered + length q.pending) n then Some withdraw.NotAccepted
    else (if nat_lt n q.delivered then Some withdraw.Delivered
    else withdraw_refusal_by (slice_get q.pending (n - q.delivered)))

abbrev pub withdraw_refusal : Content → ℕ → ℕ → Option WithdrawRefusal
withdraw_refusal c s n = withdraw_refusal_of (slice_get c.queues s) n

-- That record is withdrawn.
abbrev pub withdrawn : EntryValue → EntryValue
withdrawn e = record { ticket = e.ticket; asked = e.asked; phase = e.phase; withdrawn = true }

abbrev pub withdrawn_at : ℕ → QueueValue → QueueValue
withdrawn_at n q = if nat_lt n q.delivered then q
    else record { room = q.room; delivered = q.delivered; pending = change_at (n - q.delivered) withdrawn q.pending }

abbrev pub after_withdraw : Content → ℕ → ℕ → Content
after_withdraw c s n = with_queue s (withdrawn_at n) c

abbrev pub after_close : Content → Content
after_close c = record { queues = c.queues; next = c.next; closed = true }

-- how many records of a submitter are pending
abbrev pub pending_of : Option QueueValue → Option ℕ
pending_of None = None
pending_of (Some q) = Some (length q.pending)

-- Nothing is pending, and so no job is out.
abbrev pub is_drained : Content → Bool
is_drained c = list_all (λ q. length q.pending == 0) c.queues

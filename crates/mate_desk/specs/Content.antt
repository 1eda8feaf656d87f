-- What a desk holds (own to this project).
use Rattle.std.specs.Prelude.{ℕ, ◌==◌, nat_lt, Bool, true, false, not, ◌&&◌, if◌then◌else◌, List, [], ◌∷◌, flat_map, Option, None, Some}
use Rattle.chess_notation.specs.Records.{RecordValue}
use Rattle.mate_jobs.specs.Jobs.{Task}
use Rattle.chess_problems.specs.SameProblems.{is_same_problem}
use Rattle.chess_notation.specs.Records.{problem_of}

-- A record waits, is out with a job, or is finished: then the outcome that is right for it is there.
pub data Phase : Type 0 where
  Waiting : Phase
  Out : Phase
  Finished : Phase

-- A pending record: the ticket under which it was accepted, its phase, and whether it was withdrawn.
pub record EntryValue : Type 0 where
  pub ticket : ℕ
  pub asked : RecordValue
  pub phase : Phase
  pub withdrawn : Bool

-- A submitter: how many records it may have pending, how many deliveries it got, and its pending records in order of acceptance.
pub record QueueValue : Type 0 where
  pub room : ℕ
  pub delivered : ℕ
  pub pending : List EntryValue

-- The submitters in order of their numbers, the next ticket, and whether the desk is closed.
pub record Content : Type 0 where
  pub queues : List QueueValue
  pub next : ℕ
  pub closed : Bool

abbrev pub is_waiting : Phase → Bool
is_waiting Waiting = true
is_waiting Out = false
is_waiting Finished = false

abbrev pub is_out : Phase → Bool
is_out Waiting = false
is_out Out = true
is_out Finished = false

abbrev pub is_finished : Phase → Bool
is_finished Waiting = false
is_finished Out = false
is_finished Finished = true

-- It may be taken: it is in its first phase, and was not withdrawn.
abbrev pub waits : EntryValue → Bool
waits e = is_waiting e.phase && not e.withdrawn

-- It may be collected: its answer where it is finished; where it was withdrawn, its notice unless its job is out.
abbrev pub is_ready : EntryValue → Bool
is_ready e = if e.withdrawn then not (is_out e.phase) else is_finished e.phase

abbrev pub has_ticket : ℕ → EntryValue → Bool
has_ticket ticket e = e.ticket == ticket

-- It has the ticket and the problem of a job.
abbrev pub has_task : Task → EntryValue → Bool
has_task task e = has_ticket task.ticket e && is_same_problem (problem_of e.asked) task.problem

-- It may be taken as this job.
abbrev pub waits_as : Task → EntryValue → Bool
waits_as task e = waits e && has_task task e

-- It is out with this job.
abbrev pub is_out_with : Task → EntryValue → Bool
is_out_with task e = is_out e.phase && has_task task e

-- all that is pending, submitter by submitter
abbrev pub entries : Content → List EntryValue
entries c = flat_map (λ q. q.pending) c.queues

abbrev pub lower : ℕ → Option ℕ → Option ℕ
lower ticket None = Some ticket
lower ticket (Some other) = Some (if nat_lt other ticket then other else ticket)

-- the lowest ticket that waits
abbrev pub lowest : List EntryValue → Option ℕ
lowest [] = None
lowest (e ∷ es) = if waits e then lower e.ticket (lowest es) else lowest es

-- Not for believing: how entries and queues are kept. No contract of a public call rests on it.
use Rattle.std.specs.Prelude.{◌≡◌, ℕ, zero, suc, ◌<◌, nat_lt, Bool, true, false, List, [], ◌∷◌, slice_get, sum_by, cond, Option, None, Some}
use Rattle.mate_jobs.specs.Jobs.{Task}
use Rattle.chess_notation.specs.Records.{problem_of}
use Rattle.mate_desk.specs.Content.{Phase, Waiting, Out, Finished, EntryValue, QueueValue, waits, is_finished, is_out_with}
use Rattle.mate_desk.specs.inside.PlaceBits.{has_place}
use Rattle.mate_desk.specs.declared.entries.Standing.{Standing}
use Rattle.mate_desk.specs.declared.entries.Standing.TheVariants as kept

abbrev pub phase_of : Standing → Phase
phase_of kept.Waiting = Waiting
phase_of kept.Out = Out
phase_of kept.Finished = Finished

-- the job that a record is given out as
abbrev pub task_of : EntryValue → Task
task_of e = record { ticket = e.ticket; problem = problem_of e.asked }

-- what counts of a record, where it is finished
abbrev pub finished_by : (Task → ℕ) → EntryValue → ℕ
finished_by f e = cond (is_finished e.phase) (f (task_of e)) 0

-- What was solved is the jobs of the finished records, each once, in any order: whatever is summed over both is the same.
abbrev pub AreSolved : List Task → List EntryValue → Type 0
AreSolved solved es = (f : Task → ℕ) → sum_by f solved ≡ sum_by (finished_by f) es

-- The record at a place may be taken.
abbrev pub waits_at : List EntryValue → ℕ → Bool
waits_at [] place = false
waits_at (e ∷ es) zero = waits e
waits_at (e ∷ es) (suc place) = waits_at es place

-- The word has exactly the places of the records that may be taken.
abbrev pub Marks : ℕ → List EntryValue → Type 0
Marks word es = (place : ℕ) → place < 64 → has_place word place ≡ waits_at es place

-- The record at this place is out with this job, and it asks the problem of the job.
pub record IsOutAt (task : Task) (place : ℕ) (es : List EntryValue) : Type 0 where
  pub entry : EntryValue
  pub there : slice_get es place ≡ Some entry
  pub out : is_out_with task entry ≡ true
  pub same : problem_of entry.asked ≡ task.problem

-- It stands so in the queue of this submitter.
pub record IsOutIn (task : Task) (s place : ℕ) (queues : List QueueValue) : Type 0 where
  pub queue : QueueValue
  pub there : slice_get queues s ≡ Some queue
  pub here : IsOutAt task place queue.pending

-- The first of two tickets is there, and is the lower one or the only one.
abbrev pub is_lower : Option ℕ → Option ℕ → Bool
is_lower None other = false
is_lower (Some ticket) None = true
is_lower (Some ticket) (Some other) = nat_lt ticket other

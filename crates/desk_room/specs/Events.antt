-- What a keeper did at its rings and its deque, and the events by which that grows (own to this project).
use Rattle.std.specs.Prelude.{◌≡◌, ℕ, ◌+◌, ◌<◌, Bool, true, false, if◌then◌else◌, List, [], ◌∷◌, ◌++◌, length, count_by, is_none, Some}
use Rattle.mate_jobs.specs.Jobs.{Task}
use Rattle.mate_desk.specs.Content.{Content, Waiting, Finished, entries, lowest, waits_as, is_out_with}
use Rattle.mate_desk.specs.Calls.{change_at, submit_refusal, after_submit, after_take, has_out, after_return}
use Rattle.mate_desk.specs.Calls.{ready, after_collect, withdraw_refusal, after_withdraw}
use Rattle.mate_desk.specs.Deliveries.{delivery}
use Rattle.mate_jobs.specs.declared.deliveries.Delivery.{Delivery}
use Rattle.room_ends.specs.Letters.{records, farewells}
use Rattle.room_ends.specs.declared.letters.Letter.{Letter}
use Rattle.room_ends.specs.declared.letters.Letter.TheVariants.{Record, Withdrawal, Farewell}
use Rattle.room_ends.specs.declared.letters.Back.{Back}
use Rattle.room_ends.specs.declared.letters.Back.TheVariants.{Solved, Returned}
use Rattle.room_ends.specs.declared.deque_rule.Order.{Order}
use Rattle.room_ends.specs.declared.deque_rule.Order.TheVariants.{Solve}

-- For each window the letters taken off its ring and the deliveries put on its ring, for each bench what was taken off its back ring,
-- the orders put out, and what the desk holds.
pub record RoomLists : Type 0 where
  pub taken : List (List Letter)
  pub put : List (List Delivery)
  pub heard : List (List Back)
  pub orders : List Order
  pub content : Content

-- Something is heard of a bench, a letter of a window is taken, a job is ordered, a delivery is given to a window.
pub data Event : Type 0 where
  Hears : ℕ → Back → Event
  Takes : ℕ → Letter → Event
  Orders : Task → Event
  Gives : ℕ → Delivery → Event

abbrev pub one_more : {A : Type 0} → A → List A → List A
one_more x xs = xs ++ x ∷ []

-- the job that came back
abbrev pub job_of : Back → Task
job_of (Solved done) = done
job_of (Returned job) = job

-- what the desk holds when it was told of that
abbrev pub hearing : Back → Content → Content
hearing (Solved done) c = after_return c done Finished
hearing (Returned job) c = after_return c job Waiting

-- and of a letter of the n-th window
abbrev pub taking : ℕ → Letter → Content → Content
taking n (Record r) c = after_submit c n r
taking n (Withdrawal m) c = after_withdraw c n m
taking n Farewell c = c

-- A record of the n-th window would be accepted.
abbrev pub accepts : Content → ℕ → Bool
accepts c n = is_none (submit_refusal c n)

-- This event can come.
abbrev pub May : Event → RoomLists → Type 0
May (Hears b x) s = b < length s.heard
May (Takes n x) s = (n < length s.taken) × (accepts s.content n ≡ true)
May (Orders job) s = (lowest (entries s.content) ≡ Some job.ticket) × (count_by (waits_as job) (entries s.content) ≡ 1)
    × (count_by (is_out_with job) (entries s.content) ≡ 0)
May (Gives n d) s = (n < length s.put) × (delivery (ready s.content n) ≡ Some d)

-- This is so after it.
abbrev pub after : Event → RoomLists → RoomLists
after (Hears b x) s = record {
  taken = s.taken;
  put = s.put;
  heard = change_at b (one_more x) s.heard;
  orders = s.orders;
  content = hearing x s.content;
}
after (Takes n x) s = record {
  taken = change_at n (one_more x) s.taken;
  put = s.put;
  heard = s.heard;
  orders = s.orders;
  content = taking n x s.content;
}
after (Orders job) s = record {
  taken = s.taken;
  put = s.put;
  heard = s.heard;
  orders = s.orders ++ Solve job ∷ [];
  content = after_take s.content job;
}
after (Gives n d) s = record {
  taken = s.taken;
  put = change_at n (one_more d) s.put;
  heard = s.heard;
  orders = s.orders;
  content = after_collect s.content n;
}

-- These events lead from the one to the other, one by one.
abbrev pub Leads : List Event → RoomLists → RoomLists → Type 0
Leads [] s t = t ≡ s
Leads (e ∷ es) s t = May e s × Leads es (after e s) t

-- of which kind an event is
abbrev pub is_heard : Event → Bool
is_heard (Hears b x) = true
is_heard _ = false

abbrev pub is_taken : Event → Bool
is_taken (Takes n x) = true
is_taken _ = false

abbrev pub is_ordered : Event → Bool
is_ordered (Orders job) = true
is_ordered _ = false

abbrev pub is_given : Event → Bool
is_given (Gives n d) = true
is_given _ = false

-- All of them are of a kind.
abbrev pub AllOf : (Event → Bool) → List Event → Type 0
AllOf kind [] = Unit {0}
AllOf kind (e ∷ es) = (kind e ≡ true) × AllOf kind es

-- a number of each event, where it comes, added up
abbrev pub tally : (Event → RoomLists → ℕ) → List Event → RoomLists → ℕ
tally f [] s = 0
tally f (e ∷ es) s = f e s + tally f es (after e s)

abbrev pub one_if : Bool → ℕ
one_if b = if b then 1 else 0

-- What comes of a letter of the n-th window: whether a withdrawal is accepted.
abbrev pub withdrawn_in : ℕ → Letter → Content → ℕ
withdrawn_in n (Record r) c = 0
withdrawn_in n (Withdrawal m) c = one_if (is_none (withdraw_refusal c n m))
withdrawn_in n Farewell c = 0

-- What comes of a job that came back: it was out and is solved, it was out and was returned, it was not out.
abbrev pub solved_in : Back → Content → ℕ
solved_in (Solved done) c = one_if (has_out c done)
solved_in (Returned job) c = 0

abbrev pub returned_in : Back → Content → ℕ
returned_in (Solved done) c = 0
returned_in (Returned job) c = one_if (has_out c job)

abbrev pub stranger_in : Back → Content → ℕ
stranger_in x c = if has_out c (job_of x) then 0 else 1

-- the same of an event
abbrev pub accepted_by : Event → RoomLists → ℕ
accepted_by (Takes n x) s = length (records (x ∷ []))
accepted_by _ s = 0

abbrev pub byes_by : Event → RoomLists → ℕ
byes_by (Takes n x) s = farewells (x ∷ [])
byes_by _ s = 0

abbrev pub withdrawn_by : Event → RoomLists → ℕ
withdrawn_by (Takes n x) s = withdrawn_in n x s.content
withdrawn_by _ s = 0

abbrev pub solved_by : Event → RoomLists → ℕ
solved_by (Hears b x) s = solved_in x s.content
solved_by _ s = 0

abbrev pub returned_by : Event → RoomLists → ℕ
returned_by (Hears b x) s = returned_in x s.content
returned_by _ s = 0

abbrev pub strangers_by : Event → RoomLists → ℕ
strangers_by (Hears b x) s = stranger_in x s.content
strangers_by _ s = 0

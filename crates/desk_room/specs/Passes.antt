-- The four passes of a turn: each is a run of events of one kind, and counts them.
use Rattle.std.specs.Prelude.{◌≡◌, ℕ, List, length}
use Rattle.desk_room.specs.Events.{RoomLists, Event, Leads, AllOf, tally, is_heard, is_taken, is_ordered, is_given}
use Rattle.desk_room.specs.Events.{accepted_by, byes_by, withdrawn_by, solved_by, returned_by, strangers_by}

-- So much came back: solved, returned, and of jobs that were not out.
pub record Hearing (s t : RoomLists) (solved returned strangers : ℕ) : Type 0 where
  pub events : List Event
  pub kind : AllOf is_heard events
  pub leads : Leads events s t
  pub solved_counted : solved ≡ tally solved_by events s
  pub returned_counted : returned ≡ tally returned_by events s
  pub strangers_counted : strangers ≡ tally strangers_by events s

-- So many letters are taken: records, farewells, and withdrawals that the desk accepted.
pub record Taking (s t : RoomLists) (accepted byes withdrawn : ℕ) : Type 0 where
  pub events : List Event
  pub kind : AllOf is_taken events
  pub leads : Leads events s t
  pub accepted_counted : accepted ≡ tally accepted_by events s
  pub byes_counted : byes ≡ tally byes_by events s
  pub withdrawn_counted : withdrawn ≡ tally withdrawn_by events s

-- So many jobs are ordered.
pub record Ordering (s t : RoomLists) (ordered : ℕ) : Type 0 where
  pub events : List Event
  pub kind : AllOf is_ordered events
  pub leads : Leads events s t
  pub counted : ordered ≡ length events

-- So many deliveries are given.
pub record Giving (s t : RoomLists) (delivered : ℕ) : Type 0 where
  pub events : List Event
  pub kind : AllOf is_given events
  pub leads : Leads events s t
  pub counted : delivered ≡ length events

-- What holds of the content of every desk.
use Rattle.std.specs.Prelude.{◌≡◌, ℕ, ◌+◌, ◌<◌, ◌≤◌, List, [], ◌∷◌, length, count_by, flat_map, slice_get, Some}
use Rattle.mate_desk.specs.Content.{QueueValue, EntryValue, has_ticket}
use Rattle.mate_desk.specs.Refusals.{AreServed, IsRoom}

-- No two pending records have the same ticket.
abbrev pub AreDistinct : List QueueValue → Type 0
AreDistinct queues = (ticket : ℕ) → count_by (has_ticket ticket) (flat_map (λ q. q.pending) queues) ≤ 1

-- The tickets rise, from this one on.
abbrev pub Rises : ℕ → List EntryValue → Type 0
Rises low [] = Unit {0}
Rises low (e ∷ es) = (low ≤ e.ticket) × Rises (e.ticket + 1) es

-- The tickets are below this one.
abbrev pub AreBelow : ℕ → List EntryValue → Type 0
AreBelow high [] = Unit {0}
AreBelow high (e ∷ es) = (e.ticket < high) × AreBelow high es

-- Of one submitter: its pending records have rising tickets, all of them given already; there is room for them; and no more were
-- accepted from it than tickets were given.
pub record IsOrdered (next : ℕ) (q : QueueValue) : Type 0 where
  pub rises : Rises 0 q.pending
  pub given : AreBelow next q.pending
  pub room : IsRoom q.room
  pub fits : length q.pending ≤ q.room
  pub counted : q.delivered + length q.pending ≤ next

-- of every submitter
abbrev pub AreOrdered : ℕ → List QueueValue → Type 0
AreOrdered next queues = (s : ℕ) (q : QueueValue) → slice_get queues s ≡ Some q → IsOrdered next q

-- A desk is made for 1 to 16 submitters; its tickets are distinct, and in order for each submitter.
pub record AreKept (next : ℕ) (queues : List QueueValue) : Type 0 where
  pub served : AreServed (length queues)
  pub distinct : AreDistinct queues
  pub ordered : AreOrdered next queues

-- What holds of a keeper at every moment: what was taken of each window is what was delivered to it and what it has pending.
use Rattle.std.specs.Prelude.{◌≡◌, ℕ, ◌+◌, Bool, true, List, [], ◌∷◌, ◌++◌, length, map, drop}
use Rattle.chess_notation.specs.Records.{RecordValue}
use Rattle.mate_desk.specs.Content.{EntryValue, QueueValue}
use Rattle.mate_jobs.specs.declared.deliveries.Delivery.{Delivery}
use Rattle.room_ends.specs.Letters.{records}
use Rattle.desk_room.specs.Deliveries.{asked}
use Rattle.desk_room.specs.Withdrawals.{marks, are_notices_marked}
use Rattle.desk_room.specs.Events.{RoomLists}
use Rattle.room_ends.specs.declared.letters.Letter.{Letter}

abbrev pub asked_of : EntryValue → RecordValue
asked_of e = e.asked

abbrev pub is_withdrawn : EntryValue → Bool
is_withdrawn e = e.withdrawn

abbrev pub room_of : QueueValue → ℕ
room_of q = q.room

-- for each window the records that were delivered, and then those that are pending
abbrev pub owed : List (List Delivery) → List QueueValue → List (List RecordValue)
owed [] qs = []
owed (p ∷ ps) [] = []
owed (p ∷ ps) (q ∷ qs) = (map asked p ++ map asked_of q.pending) ∷ owed ps qs

-- The records taken of each window are those delivered to it, followed by those that it has pending.
abbrev pub AreOwed : RoomLists → Type 0
AreOwed s = map records s.taken ≡ owed s.put s.content.queues

-- Of one window: the desk counts what was put on its answer ring; a pending record is withdrawn exactly where a withdrawal of it was
-- taken behind it; and a notice was put only in the place of such a record.
pub record IsMarked (letters : List Letter) (put : List Delivery) (q : QueueValue) : Type 0 where
  pub delivered : q.delivered ≡ length put
  pub counted : length (marks letters) ≡ length put + length q.pending
  pub withdrawn : map is_withdrawn q.pending ≡ drop (length put) (marks letters)
  pub notices : are_notices_marked put (marks letters) ≡ true

abbrev pub EachIsMarked : List (List Letter) → List (List Delivery) → List QueueValue → Type 0
EachIsMarked [] [] [] = Unit {0}
EachIsMarked (t ∷ ts) (p ∷ ps) (q ∷ qs) = IsMarked t p q × EachIsMarked ts ps qs
EachIsMarked _ _ _ = ⊥

-- of every window
abbrev pub AreMarked : RoomLists → Type 0
AreMarked s = EachIsMarked s.taken s.put s.content.queues

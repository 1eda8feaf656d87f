-- What a turn is, and what is said of it.
use Rattle.std.specs.Prelude.{◌≡◌, ◌≤◌, ◌⊎◌, ℕ, zero, suc, ◌+◌, ◌^◌, ◌-◌, ◌==◌, Bool, true, false, not}
use Rattle.std.specs.Prelude.{◌&&◌, if◌then◌else◌, List, [], ◌∷◌, ◌++◌, length, drop, get_or, count_by}
use Rattle.std.specs.List.{list_any}
use Rattle.mate_desk.specs.Content.{Content, EntryValue, QueueValue, entries, has_ticket, has_task, is_out, is_finished, waits}
use Rattle.mate_jobs.specs.declared.deliveries.Delivery.{Delivery}
use Rattle.room_ends.specs.Letters.{records, farewells}
use Rattle.desk_room.specs.Deliveries.{is_answer}
use Rattle.desk_room.specs.Events.{RoomLists, job_of}
use Rattle.desk_room.specs.Kept.{is_withdrawn}
use Rattle.desk_room.specs.Passes.{Hearing, Taking, Ordering, Giving}
use Rattle.room_ends.specs.declared.letters.Back.{Back}
use Rattle.room_ends.specs.declared.letters.Back.TheVariants.{Solved, Returned}
use Rattle.room_ends.specs.declared.deque_rule.Order.{Order}
use Rattle.room_ends.specs.declared.deque_rule.Order.TheVariants.{Solve, Stop}
use Rattle.desk_room.specs.declared.turns.Turn.{Turn}

-- the four passes, one after the other
pub record Turned (s t : RoomLists) (n : Turn) : Type 0 where
  pub after_hearing : RoomLists
  pub after_taking : RoomLists
  pub after_ordering : RoomLists
  pub heard : Hearing s after_hearing n.solved n.returned n.strangers
  pub taken : Taking after_hearing after_taking n.accepted n.byes n.withdrawn
  pub ordered : Ordering after_taking after_ordering n.ordered
  pub given : Giving after_ordering t n.delivered

-- a number of each, added up
abbrev pub total : {A : Type 0} → (A → ℕ) → List A → ℕ
total f [] = 0
total f (x ∷ xs) = f x + total f xs

-- how many of these are notices
abbrev pub notices : List Delivery → ℕ
notices [] = 0
notices (d ∷ ds) = (if is_answer d then 0 else 1) + notices ds

-- how many records are withdrawn: those that are pending still, and those whose notice was put
abbrev pub withdrawals : RoomLists → ℕ
withdrawals s = count_by is_withdrawn (entries s.content) + total notices s.put

-- The counts are what the lists gained.
pub record AreGains (s t : RoomLists) (n : Turn) : Type 0 where
  pub accepted : total (λ l. length (records l)) t.taken ≡ total (λ l. length (records l)) s.taken + n.accepted
  pub withdrawn : withdrawals t ≡ withdrawals s + n.withdrawn
  pub byes : total farewells t.taken ≡ total farewells s.taken + n.byes
  pub ordered : length t.orders ≡ length s.orders + n.ordered
  pub heard : total length t.heard ≡ total length s.heard + (n.solved + (n.returned + n.strangers))
  pub delivered : total length t.put ≡ total length s.put + n.delivered

-- what each list gained, one after the other
abbrev pub gained : {A : Type 0} → List (List A) → List (List A) → List A
gained [] ys = []
gained (x ∷ xs) [] = []
gained (x ∷ xs) (y ∷ ys) = drop (length x) y ++ gained xs ys

-- None of these lists gained more than so many.
unfoldable pub GainFew : {A : Type 0} → ℕ → List (List A) → List (List A) → Type 0
GainFew ring xs ys = (n : ℕ) → length (get_or ys n []) ≤ length (get_or xs n []) + ring

-- In a turn no ring is taken from, or put on, more often than it has places.
pub record AreFew (ring : ℕ) (s t : RoomLists) : Type 0 where
  pub taken : GainFew ring s.taken t.taken
  pub put : GainFew ring s.put t.put
  pub heard : GainFew ring s.heard t.heard

-- what the n-th window has pending
abbrev pub pending_at : ℕ → List QueueValue → List EntryValue
pending_at n [] = []
pending_at zero (q ∷ qs) = q.pending
pending_at (suc n) (q ∷ qs) = pending_at n qs

-- how many it may have
abbrev pub room_at : ℕ → List QueueValue → ℕ
room_at n [] = 0
room_at zero (q ∷ qs) = q.room
room_at (suc n) (q ∷ qs) = room_at n qs

-- The desk, with the turn's records in it and before anything is delivered, accepts no more of the n-th window.
abbrev pub IsFilled : ℕ → RoomLists → RoomLists → Type 0
IsFilled n s t =
    (t.content.closed ≡ true)
    ⊎ (t.content.next ≡ 2 ^ 64 - 1)
    ⊎ (room_at n t.content.queues + length (get_or s.put n []) ≤ length (pending_at n t.content.queues) + length (get_or t.put n []))

-- how many records wait
abbrev pub waiting : Content → ℕ
waiting c = count_by waits (entries c)

-- It is out under this ticket.
abbrev pub is_out_under : ℕ → EntryValue → Bool
is_out_under ticket e = is_out e.phase && has_ticket ticket e

-- how many entries are out under a ticket
abbrev pub outs : ℕ → Content → ℕ
outs ticket c = count_by (is_out_under ticket) (entries c)

-- Some of what came back names this entry, with its ticket and its problem.
abbrev pub is_named : List Back → EntryValue → Bool
is_named backs e = list_any (λ x. has_task (job_of x) e) backs

-- how many entries are out under a ticket and named by none of these
abbrev pub still_out : ℕ → List Back → Content → ℕ
still_out ticket backs c = count_by (λ e. is_out_under ticket e && not (is_named backs e)) (entries c)

-- how often the job of a ticket is ordered
abbrev pub times_ordered : ℕ → List Order → ℕ
times_ordered ticket [] = 0
times_ordered ticket (Solve job ∷ rest) = (if job.ticket == ticket then 1 else 0) + times_ordered ticket rest
times_ordered ticket (Stop ∷ rest) = times_ordered ticket rest

-- One of these is the solved job of this entry.
abbrev pub solves : Back → EntryValue → Bool
solves (Solved done) e = has_task done e
solves (Returned job) e = false

-- It was finished, or was solved among these.
abbrev pub MayBeFinished : List Back → EntryValue → Type 0
MayBeFinished backs e = (is_finished e.phase ≡ true) ⊎ (list_any (λ x. solves x e) backs ≡ true)

-- What was heard, what was given to one window, what it had pending and what it has. What was given stands for the first entries; the
-- others are there still, and behind them stand those that came. Only what was finished, or was heard solved, was answered or is finished.
abbrev pub AreFinishedBy : List Back → List Delivery → List EntryValue → List EntryValue → Type 0
AreFinishedBy backs [] [] [] = Unit {0}
AreFinishedBy backs [] [] (j ∷ js) = (is_finished j.phase ≡ false) × AreFinishedBy backs [] [] js
AreFinishedBy backs [] (i ∷ is) [] = ⊥
AreFinishedBy backs [] (i ∷ is) (j ∷ js) = (j.ticket ≡ i.ticket) × (j.asked ≡ i.asked)
    × (is_finished j.phase ≡ true → MayBeFinished backs i) × AreFinishedBy backs [] is js
AreFinishedBy backs (d ∷ ds) [] js = (is_answer d ≡ false) × AreFinishedBy backs ds [] js
AreFinishedBy backs (d ∷ ds) (i ∷ is) js = (is_answer d ≡ true → MayBeFinished backs i) × AreFinishedBy backs ds is js

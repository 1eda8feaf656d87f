-- Not for believing: what one step of a pass did. No contract of a public call rests on it.
use Rattle.std.specs.Prelude.{◌≡◌, ◌≢◌, ◌<◌, ◌≤◌, ◌⊎◌, get_or, ℕ, ◌+◌, Bool, true, false, List, [], ◌∷◌, ◌++◌, length, count_by, Some, None}
use Rattle.mate_jobs.specs.Jobs.{Task}
use Rattle.mate_desk.specs.Content.{Content, entries, lowest, waits, waits_as, is_out_with}
use Rattle.mate_desk.specs.Calls.{ready, after_take, after_collect}
use Rattle.mate_desk.specs.Deliveries.{delivery}
use Rattle.mate_jobs.specs.declared.deliveries.Delivery.{Delivery}
use Rattle.room_ends.specs.Letters.{records, farewells}
use Rattle.desk_room.specs.Passes.{Ordering}
use Rattle.desk_room.specs.Turns.{waiting}
use Rattle.desk_room.specs.Keepers.{is_home, Stays}
use Rattle.desk_room.specs.Events.{RoomLists, hearing, taking, withdrawn_in, solved_in, returned_in, stranger_in}
use Rattle.room_ends.specs.Benches.{heard, back_known}
use Rattle.room_ends.specs.WindowRings.{letters_taken, letters_known, deliveries_put, places_free}
use Rattle.room_ends.specs.declared.letters.Letter.{Letter}
use Rattle.room_ends.specs.declared.letters.Back.{Back}
use Rattle.room_ends.specs.declared.deque_rule.Order.{Order}
use Rattle.room_ends.specs.declared.deque_rule.Order.TheVariants.{Solve}
use Rattle.room_ends.specs.declared.back_receiver.BackReceiver.{BackReceiver}
use Rattle.room_ends.specs.declared.window_ring_line.Line.{Line}
use Rattle.desk_room.specs.declared.keepers.Keeper.{Keeper}
use Rattle.desk_room.specs.declared.turns.back_pass.Heard.{Heard}
use Rattle.desk_room.specs.declared.turns.letter_pass.Took.{Took}
use Rattle.desk_room.specs.declared.turns.order_pass.Tried.{Tried}
use Rattle.desk_room.specs.declared.turns.order_pass.Tried.TheVariants.{Ordered, Refused, NoneWaits}

-- Something was heard, and the desk was told of it.
pub record HeardOne (old new : BackReceiver) (c d : Content) (counts : Heard) : Type 0 where
  pub back : Back
  pub known : back_known old ≡ back ∷ back_known new
  pub heard : heard new ≡ heard old ++ back ∷ []
  pub content : d ≡ hearing back c
  pub solved : counts.solved ≡ solved_in back c
  pub returned : counts.returned ≡ returned_in back c
  pub strangers : counts.strangers ≡ stranger_in back c

-- A letter of the n-th window was taken, and the desk was told of it.
pub record TookOne (n : ℕ) (old new : Line) (c d : Content) (counts : Took) : Type 0 where
  pub letter : Letter
  pub known : letters_known old ≡ letter ∷ letters_known new
  pub taken : letters_taken new ≡ letters_taken old ++ letter ∷ []
  pub content : d ≡ taking n letter c
  pub accepted : counts.accepted ≡ length (records (letter ∷ []))
  pub byes : counts.byes ≡ farewells (letter ∷ [])
  pub withdrawn : counts.withdrawn ≡ withdrawn_in n letter c

-- A job was ordered; or the deque refused it, which it never does with its first; or nothing waits.
abbrev pub OrderedOne : List Order → List Order → Content → Content → Tried → Type 0
OrderedOne old new c d Ordered = (job : Task) × (lowest (entries c) ≡ Some job.ticket) × (count_by (waits_as job) (entries c) ≡ 1)
    × (count_by (is_out_with job) (entries c) ≡ 0) × (new ≡ old ++ Solve job ∷ []) × (d ≡ after_take c job)
OrderedOne old new c d Refused = (new ≡ old) × (d ≡ c) × (0 < length old)
OrderedOne old new c d NoneWaits = (new ≡ old) × (d ≡ c) × (count_by waits (entries c) ≡ 0)

-- A delivery was given to the n-th window; or its ring has no place known to be free, or nothing is ready.
abbrev pub GaveOne : ℕ → Line → Line → Content → Content → Bool → Type 0
GaveOne n old new c d true = (x : Delivery) × (delivery (ready c n) ≡ Some x)
    × (deliveries_put new ≡ deliveries_put old ++ x ∷ []) × (d ≡ after_collect c n)
GaveOne n old new c d false = (deliveries_put new ≡ deliveries_put old) × (d ≡ c) × ((places_free new ≡ 0) ⊎ (ready c n ≡ None))

-- The same of the keeper's lists: whether one waits less, or why none was ordered.
abbrev pub Trying : RoomLists → RoomLists → Tried → Type 0
Trying s t Ordered = Ordering s t 1 × (waiting t.content + 1 ≡ waiting s.content)
Trying s t Refused = (t ≡ s) × (0 < length t.orders)
Trying s t NoneWaits = (t ≡ s) × (waiting t.content ≡ 0)

-- A keeper that used, of its ends, those of the windows' rings alone.
pub record AtLines (k m : Keeper) : Type 0 where
  pub stays : Stays k m
  pub home : is_home m ≡ is_home k
  pub receivers : m.receivers ≡ k.receivers
  pub producer : m.producer ≡ k.producer

-- those of the back rings alone
pub record AtReceivers (k m : Keeper) : Type 0 where
  pub stays : Stays k m
  pub home : is_home m ≡ is_home k
  pub lines : m.lines ≡ k.lines
  pub producer : m.producer ≡ k.producer

-- that of the deque alone
pub record AtProducer (k m : Keeper) : Type 0 where
  pub stays : Stays k m
  pub home : is_home m ≡ is_home k
  pub lines : m.lines ≡ k.lines
  pub receivers : m.receivers ≡ k.receivers

-- The lists but the n-th are as they were.
unfoldable pub Untouched : {A : Type 0} → ℕ → List (List A) → List (List A) → Type 0
Untouched n xs ys = (i : ℕ) → i ≢ n → get_or ys i [] ≡ get_or xs i []

-- The lists before the n-th gained so many at most, and the others nothing.
unfoldable pub GainBefore : {A : Type 0} → ℕ → ℕ → List (List A) → List (List A) → Type 0
GainBefore n ring xs ys = (i : ℕ) → (i < n → length (get_or ys i []) ≤ length (get_or xs i []) + ring) × (n ≤ i → get_or ys i [] ≡ get_or xs i [])

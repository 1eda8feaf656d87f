-- What a contract sees of a keeper: what it did, what its desk holds, and what it knows of its rings (own to this project).
use Rattle.std.specs.Prelude.{◌≡◌, ◌≢◌, ◌⊎◌, ℕ, nat_lt, Bool, false, List, [], ◌++◌, length, map, get_or, count_by, slice_get, Some, None}
use mathlib.Core.List.{IsPrefix}
use Rattle.mate_desk.specs.Calls.{ready}
use Rattle.room_ends.specs.Letters.{farewells}
use Rattle.desk_room.specs.Events.{RoomLists, accepts}
use Rattle.room_ends.specs.WindowRings.{letters_taken, letters_known, deliveries_put, places_free, AreEnds}
use Rattle.room_ends.specs.Windows.{number_of}
use Rattle.room_ends.specs.Benches.{heard, back_known}
use Rattle.room_ends.specs.Orders.{orders, places, SameDeque}
use Rattle.room_ends.specs.declared.letters.Letter.{Letter}
use Rattle.room_ends.specs.declared.letters.Back.{Back}
use Rattle.room_ends.specs.declared.windows.Window.{Window}
use Rattle.room_ends.specs.declared.window_ring_line.Line.{Line}
use Rattle.room_ends.specs.declared.back_receiver.BackReceiver.{BackReceiver}
use Rattle.room_ends.specs.declared.order_producer.OrderProducer.{OrderProducer}
use Rattle.desk_room.specs.declared.keepers.Keeper.{Keeper}

-- its ends of each window's two rings, and of each bench's back ring
abbrev pub lines_of : Keeper → List Line
lines_of k = k.lines.items

abbrev pub receivers_of : Keeper → List BackReceiver
receivers_of k = k.receivers.items

-- its end of the deque of orders
abbrev pub producer_of : Keeper → OrderProducer
producer_of k = k.producer

-- its lists, and what its desk holds
abbrev pub lists : Keeper → RoomLists
lists k = record {
  taken = map letters_taken k.lines.items;
  put = map deliveries_put k.lines.items;
  heard = map heard k.receivers.items;
  orders = orders k.producer;
  content = k.desk;
}

-- how many windows and benches it has, and how many places each of their rings has
abbrev pub windows_of : Keeper → ℕ
windows_of k = length k.lines.items

abbrev pub benches_of : Keeper → ℕ
benches_of k = length k.receivers.items

abbrev pub ring_of : Keeper → ℕ
ring_of k = k.ring

-- how many places its deque of orders has
abbrev pub order_places : Keeper → ℕ
order_places k = places k.producer

-- It has begun to send the benches home.
abbrev pub is_home : Keeper → Bool
is_home k = k.is_home

-- the letters that it knows to lie in the record rings
abbrev pub known : Keeper → List (List Letter)
known k = map letters_known k.lines.items

-- the places that it knows to be free in the answer rings
abbrev pub free : Keeper → List ℕ
free k = map places_free k.lines.items

-- what it knows to lie in the back rings
abbrev pub backs_known : Keeper → List (List Back)
backs_known k = map back_known k.receivers.items

-- how many windows said farewell, by their letters
abbrev pub windows_gone : List (List Letter) → ℕ
windows_gone taken = count_by (λ letters. nat_lt 0 (farewells letters)) taken

-- No letter of the n-th window is known to be left, or the desk accepts no more of it.
abbrev pub IsRead : ℕ → Keeper → Type 0
IsRead n k = (get_or (known k) n [] ≡ []) ⊎ (accepts k.desk n ≡ false)

-- The n-th answer ring has no place known to be free, or there is nothing to collect for it.
abbrev pub IsServed : ℕ → Keeper → Type 0
IsServed n k = (get_or (free k) n 0 ≡ 0) ⊎ (ready k.desk n ≡ None)

-- What was taken of each window and is known to lie in its ring only grows.
unfoldable pub Ahead : Keeper → Keeper → Type 0
Ahead k m = (n : ℕ) → IsPrefix (get_or (lists k).taken n [] ++ get_or (known k) n []) (get_or (lists m).taken n [] ++ get_or (known m) n [])

-- The same of each bench: what was heard of it and is known to lie in its back ring.
unfoldable pub BacksAhead : Keeper → Keeper → Type 0
BacksAhead k m = (b : ℕ) → IsPrefix (get_or (lists k).heard b [] ++ get_or (backs_known k) b [])
    (get_or (lists m).heard b [] ++ get_or (backs_known m) b [])

-- what is so of the other windows stays so
unfoldable pub OthersRead : ℕ → Keeper → Keeper → Type 0
OthersRead n k m = (i : ℕ) → i ≢ n → IsRead i k → IsRead i m

unfoldable pub OthersServed : ℕ → Keeper → Keeper → Type 0
OthersServed n k m = (i : ℕ) → i ≢ n → IsServed i k → IsServed i m

-- The window and the keeper are of one room: the keeper's ends at the window's number are the other ends of its rings.
abbrev pub IsOf : Window → Keeper → Type 0
IsOf w k = (line : Line) × (slice_get k.lines.items (number_of w) ≡ Some line) × AreEnds w line

-- The windows of the room are those that they were, and the deque is the same.
unfoldable pub SameRoom : Keeper → Keeper → Type 0
SameRoom k m = ((w : Window) → IsOf w k → IsOf w m) × SameDeque k.producer m.producer

-- It has as many windows, benches and places as it had, the windows are those that they were, and the deque is the same. Of each ring
-- what was taken and is known to lie there only grows.
pub record Stays (k m : Keeper) : Type 0 where
  pub windows : windows_of m ≡ windows_of k
  pub benches : benches_of m ≡ benches_of k
  pub ring : ring_of m ≡ ring_of k
  pub room : SameRoom k m
  pub ahead : Ahead k m
  pub backs_ahead : BacksAhead k m

-- It stays so, and no ring was touched: it knows of each what it knew.
pub record SameRings (k m : Keeper) : Type 0 where
  pub stays : Stays k m
  pub known : known m ≡ known k
  pub free : free m ≡ free k
  pub backs_known : backs_known m ≡ backs_known k

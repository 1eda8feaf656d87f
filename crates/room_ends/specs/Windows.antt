-- What a contract sees of a window: the letters that it sent, the deliveries that it collected, and what it knows of its two rings.
-- Own to this project.
use Rattle.std.specs.Prelude.{◌≡◌, ◌≤◌, ℕ, nat_lt, Bool, List, length}
use mathlib.Core.List.{IsPrefix}
use Rattle.rtrb.specs.Ring.{sent, received, known_free, known_items, producer_capacity, SameProducer, SameConsumer}
use Rattle.mate_jobs.specs.declared.deliveries.Delivery.{Delivery}
use Rattle.room_ends.specs.Letters.{farewells}
use Rattle.room_ends.specs.declared.letters.Letter.{Letter}
use Rattle.room_ends.specs.declared.windows.Window.{Window}

-- the letters that it put on its record ring, oldest first
abbrev pub letters_sent : Window → List Letter
letters_sent w = sent w.letters

-- the deliveries that it took from its answer ring, oldest first
abbrev pub collected : Window → List Delivery
collected w = received w.answers

-- the deliveries that it knows to lie in its answer ring
abbrev pub deliveries_known : Window → List Delivery
deliveries_known w = known_items w.answers

-- the places of its record ring that it knows to be free
abbrev pub places_known : Window → ℕ
places_known w = known_free w.letters

-- how many places its record ring has
abbrev pub places_of : Window → ℕ
places_of w = producer_capacity w.letters

-- A farewell stands among the letters that it sent.
abbrev pub is_gone : Window → Bool
is_gone w = nat_lt 0 (farewells (letters_sent w))

-- its number in its room
abbrev pub number_of : Window → ℕ
number_of w = w.number

-- the bound by which it reads a line that asks for none itself
abbrev pub default_of : Window → ℕ
default_of w = w.default

-- It has the ends of the same two rings, and its number and default bound.
abbrev pub SameWindow : Window → Window → Type 0
SameWindow a b = SameProducer a.letters b.letters × SameConsumer a.answers b.answers × (b.number ≡ a.number) × (b.default ≡ a.default)

-- Of a window and what it is after a call. At its answer ring nothing was done.
pub record SameAnswers (a b : Window) : Type 0 where
  pub window : SameWindow a b
  pub collected : collected b ≡ collected a
  pub known : deliveries_known b ≡ deliveries_known a

-- At its record ring nothing was done.
pub record SameLetters (a b : Window) : Type 0 where
  pub window : SameWindow a b
  pub sent : letters_sent b ≡ letters_sent a
  pub stays : is_gone b ≡ is_gone a
  pub places : places_known b ≡ places_known a

-- Nothing was sent or collected, and it knows no fewer free places and lying deliveries.
pub record WindowLooked (a b : Window) : Type 0 where
  pub window : SameWindow a b
  pub sent : letters_sent b ≡ letters_sent a
  pub collected : collected b ≡ collected a
  pub stays : is_gone b ≡ is_gone a
  pub known : IsPrefix (deliveries_known a) (deliveries_known b)
  pub places : places_known a ≤ places_known b

-- It knows of no free place in its record ring, and sent as many letters as that has places.
pub record HasNoPlace (w : Window) : Type 0 where
  pub known : places_known w ≡ 0
  pub filled : places_of w ≤ length (letters_sent w)

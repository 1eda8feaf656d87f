-- What a contract sees of the keeper's ends of one window's rings: the letters that it took, the deliveries that it put, and what it
-- knows of the two rings. Own to this project.
use Rattle.std.specs.Prelude.{◌≡◌, ◌≤◌, ℕ, nat_lt, Bool, List}
use mathlib.Core.List.{IsPrefix}
use Rattle.rtrb.specs.Ring.{sent, received, known_free, known_items, IsPair, SameProducer, SameConsumer}
use Rattle.mate_jobs.specs.declared.deliveries.Delivery.{Delivery}
use Rattle.room_ends.specs.Letters.{farewells}
use Rattle.room_ends.specs.declared.letters.Letter.{Letter}
use Rattle.room_ends.specs.declared.windows.Window.{Window}
use Rattle.room_ends.specs.declared.window_ring_line.Line.{Line}

-- the letters that the keeper took off the record ring, oldest first
abbrev pub letters_taken : Line → List Letter
letters_taken l = received l.letters

-- A farewell stands among the letters taken.
abbrev pub has_farewell : Line → Bool
has_farewell l = nat_lt 0 (farewells (letters_taken l))

-- the letters that it knows to lie in the record ring
abbrev pub letters_known : Line → List Letter
letters_known l = known_items l.letters

-- the deliveries that it put on the answer ring, oldest first
abbrev pub deliveries_put : Line → List Delivery
deliveries_put l = sent l.answers

-- the places of the answer ring that it knows to be free
abbrev pub places_free : Line → ℕ
places_free l = known_free l.answers

-- how many places each of the two rings has
abbrev pub ring_of : Line → ℕ
ring_of l = l.ring

-- It has the ends of the same two rings.
abbrev pub SameLine : Line → Line → Type 0
SameLine a b = SameConsumer a.letters b.letters × SameProducer a.answers b.answers × (b.ring ≡ a.ring)

-- Of a line and what it is after a call. At its answer ring nothing was done.
pub record SamePut (a b : Line) : Type 0 where
  pub line : SameLine a b
  pub put : deliveries_put b ≡ deliveries_put a
  pub free : places_free b ≡ places_free a

-- At its record ring nothing was done.
pub record SameTaken (a b : Line) : Type 0 where
  pub line : SameLine a b
  pub taken : letters_taken b ≡ letters_taken a
  pub known : letters_known b ≡ letters_known a

-- Nothing was taken or put, and it knows no fewer lying letters and free places.
pub record LineLooked (a b : Line) : Type 0 where
  pub line : SameLine a b
  pub taken : letters_taken b ≡ letters_taken a
  pub put : deliveries_put b ≡ deliveries_put a
  pub known : IsPrefix (letters_known a) (letters_known b)
  pub free : places_free a ≤ places_free b

-- The line's ends are the other ends of the window's rings.
abbrev pub AreEnds : Window → Line → Type 0
AreEnds w l = IsPair w.letters l.letters × IsPair l.answers w.answers

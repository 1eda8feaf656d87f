-- What the lists of this crate hold, in words that do not speak of how they are made.
use Rattle.std.specs.Prelude.{◌≡◌, ℕ, ◌<◌, true, List, [], ◌∷◌, length, Contains, ◌↔◌}
use Rattle.chess_board.specs.Positions.{Setup}
use Rattle.chess_board.specs.Moves.{Move, move_place}
use Rattle.chess_board.specs.MakeMove.{after_setup}
use Rattle.chess_board.specs.Legality.{is_legal}
use Rattle.chess_moves.specs.inside.Listing.{legal_moves}
use Rattle.chess_moves.specs.Plays.{plays}

-- Each move of the list comes after this place in the order of moves.
abbrev pub IsAbove : ℕ → List Move → Type 0
IsAbove place [] = Unit {0}
IsAbove place (m ∷ ms) = (place < move_place m) × IsAbove place ms

-- Each move of the list comes before all that follow it, so that none stands there twice.
abbrev pub IsRising : List Move → Type 0
IsRising [] = Unit {0}
IsRising (m ∷ ms) = IsAbove (move_place m) ms × IsRising ms

-- The legal moves rise by origin, then target, then promotion.
abbrev pub LegalRise : Type 0
LegalRise = (p : Setup) → IsRising (legal_moves p)

-- a legal move from a square of the board to another
abbrev pub IsLegalOnBoard : Setup → Move → Type 0
IsLegalOnBoard p m = (m.origin < 64) × (m.target < 64) × (is_legal p m ≡ true)

-- A move is in the list exactly where its squares are on the board and it is legal.
abbrev pub LegalListed : Type 0
LegalListed = (p : Setup) (m : Move) → Contains (legal_moves p) m ↔ IsLegalOnBoard p m

-- Each move of the line is legal in the position that the moves before it lead to.
abbrev pub IsLine : Setup → List Move → Type 0
IsLine p [] = Unit {0}
IsLine p (m ∷ ms) = IsLegalOnBoard p m × IsLine (after_setup p m) ms

-- No line of the list stands there twice.
abbrev pub IsOnce : List (List Move) → Type 0
IsOnce [] = Unit {0}
IsOnce (line ∷ lines) = (Contains lines line → ⊥) × IsOnce lines

-- The lines of d moves are exactly the lists of d moves that are legal one after the other.
abbrev pub PlaysListed : Type 0
PlaysListed = (p : Setup) (d : ℕ) (ms : List Move) → Contains (plays p d) ms ↔ ((length ms ≡ d) × IsLine p ms)

-- Each line of d moves is counted once.
abbrev pub PlaysOnce : Type 0
PlaysOnce = (p : Setup) (d : ℕ) → IsOnce (plays p d)

-- Not for believing: the flights of the king of the side that is not to move.
use Rattle.std.specs.Prelude.{◌≡◌, ℕ, ◌<◌, Bool, true, false, not, ◌&&◌, slice_set, None}
use Rattle.square_sets.specs.Members.{has}
use Rattle.chess_board.specs.declared.men.Kind.{Kind}
use Rattle.chess_board.specs.declared.men.Kind.TheVariants.{King}
use Rattle.chess_board.specs.Men.{other_side, is_of, man_of}
use Rattle.chess_board.specs.Positions.{Setup, man_at}
use Rattle.chess_board.specs.Soundness.{IsSound}
use Rattle.chess_moves.specs.declared.directions.Leap.TheVariants.{KingStep}
use Rattle.chess_moves.specs.declared.flights.Flights.{Flights}
use Rattle.chess_moves.specs.inside.Hits.{is_taken, hits_as, is_hit}
use Rattle.chess_moves.specs.inside.Leaps.{leaps}

-- A square beside the king on k that holds no man of its side and that nobody attacks once the king is lifted off the board.
pub record IsFlight (p : Setup) (k f : ℕ) : Type 0 where
  pub on_board : f < 64
  pub beside : leaps KingStep k f ≡ true
  pub free : is_of (other_side p.side) (man_at p.men f) ≡ false
  pub safe : is_hit (slice_set p.men k None) f p.side ≡ false

pub record AreFlightsOf (flights : Flights) (p : Setup) : Type 0 where
  pub on_board : flights.king < 64
  pub there : man_at p.men flights.king ≡ man_of (other_side p.side) King
  pub squares : (f : ℕ) → f < 64 → has flights.squares f ≡ true → IsFlight p flights.king f
  pub sound : IsSound p

-- flights that stay whichever man of the side to move leaves its square, and wherever it goes but there whence it attacks them itself
pub record AreLastingOf (flights : Flights) (p : Setup) : Type 0 where
  pub are : AreFlightsOf flights p
  pub lasting : (f o : ℕ) → f < 64 → o < 64 → has flights.squares f ≡ true
      → is_hit (slice_set (slice_set p.men flights.king None) o None) f p.side ≡ false

-- Once a man of this kind went from o to t, nobody attacks f: with the king on k and the man lifted off the board nobody does,
-- nor does the man from t.
abbrev pub leaves_flight : Setup → ℕ → ℕ → Kind → ℕ → ℕ → Bool
leaves_flight p k o kind t f =
    not (is_hit (slice_set (slice_set p.men k None) o None) f p.side)
    && not (hits_as (λ s. is_taken (slice_set (slice_set p.men k None) o None) s) p.side kind t f)

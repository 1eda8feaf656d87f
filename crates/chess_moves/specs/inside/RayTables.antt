-- Not for believing: what the tables hold, which no caller can read.
use Rattle.std.specs.Prelude.{◌≡◌, ℕ, ◌<◌, ◌||◌, List, [], slice_index, slice_index_or}
use Rattle.square_sets.specs.Members.{has}
use Rattle.chess_moves.specs.declared.directions.Direction.{Direction}
use Rattle.chess_moves.specs.declared.directions.Leap.{Leap}
use Rattle.chess_moves.specs.inside.Directions.{toward, direction_number, is_on_diagonal, is_on_straight}
use Rattle.chess_moves.specs.inside.Leaps.{leaps, place_of}

-- tables of a set for each square: one of rays for each direction, one of targets for each leap, and two of whole lines
pub record Tables : Type 0 where
  pub rays : List (List ℕ)
  pub leaps : List (List ℕ)
  pub diagonals : List ℕ
  pub straights : List ℕ

-- These sets are the rays in the direction, one from each square.
abbrev pub AreRaysToward : Direction → List ℕ → Type 0
AreRaysToward d rays = (s t : ℕ) → s < 64 → t < 64 → has (slice_index rays s) t ≡ toward d s t

-- These sets are the targets of the leap, from each square.
abbrev pub AreTargetsOf : Leap → List ℕ → Type 0
AreTargetsOf l targets = (s t : ℕ) → s < 64 → t < 64 → has (slice_index targets s) t ≡ leaps l s t

-- Each set has the squares of four, of the same place in four tables.
abbrev pub AreOneSetOf : List ℕ → List ℕ → List ℕ → List ℕ → List ℕ → Type 0
AreOneSetOf a b c d sets = (s t : ℕ) → s < 64 → t < 64
    → has (slice_index sets s) t ≡ (has (slice_index a s) t || has (slice_index b s) t || has (slice_index c s) t || has (slice_index d s) t)

-- Each table has what it is for.
pub record AreRays (tables : Tables) : Type 0 where
  pub rays : (d : Direction) → AreRaysToward d (slice_index_or tables.rays (direction_number d) [])
  pub leaps : (l : Leap) → AreTargetsOf l (slice_index_or tables.leaps (place_of l) [])
  pub diagonals : (s t : ℕ) → s < 64 → t < 64 → has (slice_index tables.diagonals s) t ≡ is_on_diagonal s t
  pub straights : (s t : ℕ) → s < 64 → t < 64 → has (slice_index tables.straights s) t ≡ is_on_straight s t

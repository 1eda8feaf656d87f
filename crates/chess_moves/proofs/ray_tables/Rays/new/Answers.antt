use Rattle.chess_moves.specs.declared.directions.Direction.{Direction}
use Rattle.chess_moves.specs.declared.directions.Direction.TheVariants.{North, NorthEast, East, SouthEast, South, SouthWest, West, NorthWest}
use Rattle.chess_moves.specs.declared.directions.Leap.{Leap}
use Rattle.chess_moves.specs.declared.directions.Leap.TheVariants.{KnightLeap, KingStep, WhiteCapture, BlackCapture}
use Rattle.chess_moves.specs.declared.directions.Leap.TheVariants.{WhiteStep, BlackStep, WhiteDouble, BlackDouble}
use Rattle.std.proofs.Common.{◌≡◌, ◌∙◌, ℕ, ◌<◌, ◌∷◌, [], List, slice_index, slice_index_or, refl}
use Rattle.square_sets.specs.Members.{has}
use Rattle.chess_moves.specs.inside.Directions.{direction_number, is_on_diagonal, is_on_straight}
use Rattle.chess_moves.specs.inside.Leaps.{place_of}
use Rattle.chess_moves.specs.inside.RayTables.{AreRaysToward, AreTargetsOf, AreOneSetOf}
use Rattle.chess_moves.proofs.ray_tables.Rays.new.Goals as goal

-- tables made one by one, in the order of the directions and of the leaps
all_rays : (n ne e se s sw w nw : List ℕ) → AreRaysToward North n → AreRaysToward NorthEast ne → AreRaysToward East e → AreRaysToward SouthEast se
    → AreRaysToward South s → AreRaysToward SouthWest sw → AreRaysToward West w → AreRaysToward NorthWest nw
    → (d : Direction) → AreRaysToward d (slice_index_or (n ∷ ne ∷ e ∷ se ∷ s ∷ sw ∷ w ∷ nw ∷ []) (direction_number d) [])
all_rays n ne e se s sw w nw i j k l m o p q North = i
all_rays n ne e se s sw w nw i j k l m o p q NorthEast = j
all_rays n ne e se s sw w nw i j k l m o p q East = k
all_rays n ne e se s sw w nw i j k l m o p q SouthEast = l
all_rays n ne e se s sw w nw i j k l m o p q South = m
all_rays n ne e se s sw w nw i j k l m o p q SouthWest = o
all_rays n ne e se s sw w nw i j k l m o p q West = p
all_rays n ne e se s sw w nw i j k l m o p q NorthWest = q

all_targets : (a b c d e f g h : List ℕ) → AreTargetsOf KnightLeap a → AreTargetsOf KingStep b
    → AreTargetsOf WhiteCapture c → AreTargetsOf BlackCapture d
    → AreTargetsOf WhiteStep e → AreTargetsOf BlackStep f → AreTargetsOf WhiteDouble g → AreTargetsOf BlackDouble h
    → (x : Leap) → AreTargetsOf x (slice_index_or (a ∷ b ∷ c ∷ d ∷ e ∷ f ∷ g ∷ h ∷ []) (place_of x) [])
all_targets a b c d e f g h i j k l m o p q KnightLeap = i
all_targets a b c d e f g h i j k l m o p q KingStep = j
all_targets a b c d e f g h i j k l m o p q WhiteCapture = k
all_targets a b c d e f g h i j k l m o p q BlackCapture = l
all_targets a b c d e f g h i j k l m o p q WhiteStep = m
all_targets a b c d e f g h i j k l m o p q BlackStep = o
all_targets a b c d e f g h i j k l m o p q WhiteDouble = p
all_targets a b c d e f g h i j k l m o p q BlackDouble = q

-- four rays together
all_diagonals : (ne se sw nw sets : List ℕ) → AreRaysToward NorthEast ne → AreRaysToward SouthEast se
    → AreRaysToward SouthWest sw → AreRaysToward NorthWest nw
    → AreOneSetOf ne se sw nw sets → (s t : ℕ) → s < 64 → t < 64 → has (slice_index sets s) t ≡ is_on_diagonal s t
unfolding is_on_diagonal
all_diagonals ne se sw nw sets i j k l one s t h m = one s t h m ∙ rw (i s t h m, j s t h m, k s t h m, l s t h m) refl

all_straights : (n e s w sets : List ℕ) → AreRaysToward North n → AreRaysToward East e → AreRaysToward South s → AreRaysToward West w
    → AreOneSetOf n e s w sets → (a t : ℕ) → a < 64 → t < 64 → has (slice_index sets a) t ≡ is_on_straight a t
unfolding is_on_straight
all_straights n e s w sets i j k l one a t h m = one a t h m ∙ rw (i a t h m, j a t h m, k a t h m, l a t h m) refl

pub invariant_of-result : goal.invariant_of-result
invariant_of-result c = record {
  rays = all_rays _ _ _ _ _ _ _ _ c.rays_toward-north.ensures c.rays_toward-north_east.ensures
      c.rays_toward-east.ensures c.rays_toward-south_east.ensures
      c.rays_toward-south.ensures c.rays_toward-south_west.ensures c.rays_toward-west.ensures c.rays_toward-north_west.ensures;
  leaps = all_targets _ _ _ _ _ _ _ _ c.targets_of.ensures c.targets_of-2.ensures c.targets_of-3.ensures c.targets_of-4.ensures
      c.targets_of-5.ensures c.targets_of-6.ensures c.targets_of-7.ensures c.targets_of-8.ensures;
  diagonals = all_diagonals _ _ _ _ _ c.rays_toward-north_east.ensures c.rays_toward-south_east.ensures
      c.rays_toward-south_west.ensures c.rays_toward-north_west.ensures c.one_set.ensures;
  straights = all_straights _ _ _ _ _ c.rays_toward-north.ensures c.rays_toward-east.ensures c.rays_toward-south.ensures
      c.rays_toward-west.ensures c.one_set-2.ensures;
}

pub returns : goal.returns
returns c = invariant_of-result c

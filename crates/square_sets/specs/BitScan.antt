-- The lowest square of a set, and the others.
use Rattle.std.specs.Prelude.{◌≡◌, ℕ, ◌<◌, ◌==◌, not, ◌&&◌, true, false, ◌∷◌, Option, Some, None}
use Rattle.square_sets.specs.Members.{has, members}

-- The square is in the set, and none below it is.
pub record IsLowest (square set : ℕ) : Type 0 where
  pub on_board : square < 64
  pub there : has set square ≡ true
  pub none_below : (s : ℕ) → s < square → has set s ≡ false

-- The set is its lowest square and the rest: the others, and they come after it.
pub record IsSplit (set square rest : ℕ) : Type 0 where
  pub lowest : IsLowest square set
  pub others : (s : ℕ) → s < 64 → has rest s ≡ (not (s == square) && has set s)
  pub rising : members set ≡ square ∷ members rest

-- A step through a set gives its lowest square and leaves the rest; none of the empty set.
abbrev pub YieldsLowest : ℕ → Option ℕ → ℕ → Type 0
YieldsLowest set (Some square) left = IsSplit set square left
YieldsLowest set None left = (set ≡ 0) × (left ≡ 0)

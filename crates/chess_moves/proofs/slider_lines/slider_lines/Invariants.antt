use Rattle.std.proofs.Common.{◌≡◌, ℕ, ◌<◌, true, false, ◌&&◌, ◌||◌}
use Rattle.square_sets.specs.Members.{has}
use Rattle.chess_moves.specs.inside.SliderLines.{is_open, IsAlone}
use Rattle.chess_moves.proofs.slider_lines.slider_lines.Given as goal

-- what is told of the sliders so far, and not of those that are left
pub record invariant-loop-slider (l : goal.Live-loop-slider) : Type 0 where
  pub clear : (a : ℕ) → a < 64 → (has l.lines.clear a || has l.slider-iterator a && is_open (has l.occupied) l.square a)
      ≡ (has l.sliders a && is_open (has l.occupied) l.square a)
  pub blockers : (a o : ℕ) → a < 64 → o < 64 → has l.sliders a ≡ true → has l.slider-iterator a ≡ false
      → IsAlone (has l.occupied) l.square a o → has l.lines.blockers o ≡ true

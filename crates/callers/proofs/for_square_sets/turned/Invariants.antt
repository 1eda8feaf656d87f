use Rattle.std.proofs.Common.{◌≡◌, ℕ, ◌-◌, ◌<◌, ◌||◌}
use Rattle.square_sets.specs.Members.{has}
use Rattle.callers.proofs.for_square_sets.turned.Given as goal

-- a square is in the result, or what goes there is still to come, exactly where it was in the set
abbrev pub invariant-loop-square : goal.invariant-loop-square
invariant-loop-square l = (s : ℕ) → s < 64 → (has l.result s || has l.square-iterator (63 - s)) ≡ has l.set (63 - s)

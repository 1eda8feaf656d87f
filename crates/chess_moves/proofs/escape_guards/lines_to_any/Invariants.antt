use Rattle.std.proofs.Common.{◌≡◌, ℕ, ◌<◌, Bool, true, false}
use Rattle.square_sets.specs.Members.{has}
use Rattle.chess_moves.specs.inside.Hits.{hits_as}
use Rattle.chess_moves.proofs.escape_guards.lines_to_any.Given as goal

-- from any other square each that had its turn is missed
abbrev pub invariant-loop-square : goal.invariant-loop-square
invariant-loop-square l = (t g : ℕ) → t < 64 → g < 64 → has l.lines t ≡ false → has l.fn.squares g ≡ true → has l.square-iterator g ≡ false
    → (taken : ℕ → Bool) → hits_as taken l.colour l.kind t g ≡ false

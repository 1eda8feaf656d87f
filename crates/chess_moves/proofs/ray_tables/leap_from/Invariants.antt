use Rattle.std.proofs.Common.{◌≡◌, ℕ, ◌<◌, ◌&&◌, ltb}
use Rattle.square_sets.specs.Members.{has}
use Rattle.chess_moves.specs.inside.Leaps.{leaps}
use Rattle.chess_moves.proofs.ray_tables.leap_from.Given as goal

-- the set has those below t that the leap reaches, and no other
abbrev pub invariant-loop-t : goal.invariant-loop-t
invariant-loop-t l = (k : ℕ) → k < 64 → has l.set k ≡ (ltb k l.t && leaps l.leap l.square k)

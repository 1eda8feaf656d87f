use Rattle.std.proofs.Common.{◌≡◌, ℕ, ◌<◌, ◌&&◌, ltb}
use Rattle.square_sets.specs.Members.{has}
use Rattle.chess_moves.specs.inside.Directions.{toward}
use Rattle.chess_moves.proofs.ray_tables.ray_from.Given as goal

-- the set has those below t that lie in the direction, and no other
abbrev pub invariant-loop-t : goal.invariant-loop-t
invariant-loop-t l = (k : ℕ) → k < 64 → has l.set k ≡ (ltb k l.t && toward l.direction l.square k)

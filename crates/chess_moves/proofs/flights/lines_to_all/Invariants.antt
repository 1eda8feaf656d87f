use Rattle.std.proofs.Common.{◌≡◌, ℕ, ◌<◌, true, false}
use Rattle.square_sets.specs.Members.{has}
use Rattle.chess_moves.specs.inside.EscapeSquares.{Misses}
use Rattle.chess_moves.proofs.flights.lines_to_all.Given as goal

-- from the squares that were dropped one is missed, and what is left are some of them
abbrev pub invariant-loop-square : goal.invariant-loop-square
invariant-loop-square l = record {
  missed : (t : ℕ) → t < 64 → has l.lines t ≡ false → Misses l.fn.squares l.colour l.kind t;
  left : (s : ℕ) → s < 64 → has l.square-iterator s ≡ true → has l.fn.squares s ≡ true;
}

-- Not for believing: the squares on which kings and rooks stand before they castle.
use Rattle.std.specs.Prelude.{ℕ, ◌==◌, ◌||◌, Bool}

abbrev pub is_home : ℕ → Bool
is_home square = square == 0 || square == 4 || square == 7 || square == 56 || square == 60 || square == 63

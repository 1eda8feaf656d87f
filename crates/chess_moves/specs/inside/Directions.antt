-- Not for believing: the eight directions in which a queen goes, and how far a man sees in each: until the first square that
-- is taken.
use Rattle.std.specs.Prelude.{◌≡◌, if◌then◌else◌, ℕ, ◌+◌, Bool, true, false, not, ◌&&◌, ◌||◌, ◌==◌, nat_lt}
use Rattle.chess_board.specs.Squares.{file_of, rank_of, some_square}
use Rattle.chess_moves.specs.declared.directions.Direction.{Direction}
use Rattle.chess_moves.specs.declared.directions.Direction.TheVariants.{North, NorthEast, East, SouthEast, South, SouthWest, West, NorthWest}

-- b lies further up the file
abbrev pub is_north : ℕ → ℕ → Bool
is_north a b = file_of a == file_of b && nat_lt (rank_of a) (rank_of b)

-- b lies further right on the rank
abbrev pub is_east : ℕ → ℕ → Bool
is_east a b = rank_of a == rank_of b && nat_lt (file_of a) (file_of b)

-- b lies as many files to the right as ranks up
abbrev pub is_north_east : ℕ → ℕ → Bool
is_north_east a b = file_of a + rank_of b == file_of b + rank_of a && nat_lt (rank_of a) (rank_of b)

-- b lies as many files to the left as ranks up
abbrev pub is_north_west : ℕ → ℕ → Bool
is_north_west a b = file_of a + rank_of a == file_of b + rank_of b && nat_lt (rank_of a) (rank_of b)

-- Square b lies in this direction from a.
unfoldable pub toward : Direction → ℕ → ℕ → Bool
toward North a b = is_north a b
toward NorthEast a b = is_north_east a b
toward East a b = is_east a b
toward SouthEast a b = is_north_west b a
toward South a b = is_north b a
toward SouthWest a b = is_north_east b a
toward West a b = is_east b a
toward NorthWest a b = is_north_west a b

abbrev pub opposite : Direction → Direction
opposite North = South
opposite NorthEast = SouthWest
opposite East = West
opposite SouthEast = NorthWest
opposite South = North
opposite SouthWest = NorthEast
opposite West = East
opposite NorthWest = SouthEast

-- the place of a direction among the eight
abbrev pub direction_number : Direction → ℕ
direction_number North = 0
direction_number NorthEast = 1
direction_number East = 2
direction_number SouthEast = 3
direction_number South = 4
direction_number SouthWest = 5
direction_number West = 6
direction_number NorthWest = 7

-- the numbers of the squares rise in this direction
abbrev pub is_rising : Direction → Bool
is_rising North = true
is_rising NorthEast = true
is_rising East = true
is_rising SouthEast = false
is_rising South = false
is_rising SouthWest = false
is_rising West = false
is_rising NorthWest = true

-- b lies on a diagonal of a, and on its file or its rank
unfoldable pub is_on_diagonal : ℕ → ℕ → Bool
is_on_diagonal a b = toward NorthEast a b || toward SouthEast a b || toward SouthWest a b || toward NorthWest a b

unfoldable pub is_on_straight : ℕ → ℕ → Bool
is_on_straight a b = toward North a b || toward East a b || toward South a b || toward West a b

-- Some square strictly between a and b in this direction is taken.
abbrev pub is_blocked : (ℕ → Bool) → Direction → ℕ → ℕ → Bool
is_blocked taken d a b = some_square (λ s. toward d a s && toward d s b && taken s)

-- Square b lies in this direction from a, behind a square that is taken.
abbrev pub is_hidden : (ℕ → Bool) → Direction → ℕ → ℕ → Bool
is_hidden taken d a b = toward d a b && is_blocked taken d a b

-- Square b lies in this direction from a, and no square strictly between them is taken.
abbrev pub reaches : (ℕ → Bool) → Direction → ℕ → ℕ → Bool
reaches taken d a b = toward d a b && not (is_blocked taken d a b)

-- a bishop on a reaches b
unfoldable pub reaches_as_bishop : (ℕ → Bool) → ℕ → ℕ → Bool
reaches_as_bishop taken a b = reaches taken NorthEast a b || reaches taken SouthEast a b || reaches taken SouthWest a b || reaches taken NorthWest a b

-- a rook on a reaches b
unfoldable pub reaches_as_rook : (ℕ → Bool) → ℕ → ℕ → Bool
reaches_as_rook taken a b = reaches taken North a b || reaches taken East a b || reaches taken South a b || reaches taken West a b

-- Square s stands strictly between a and b on one line.
unfoldable pub stands_between : ℕ → ℕ → ℕ → Bool
stands_between a b s =
    toward North a s && toward North s b || toward NorthEast a s && toward NorthEast s b
    || toward East a s && toward East s b || toward SouthEast a s && toward SouthEast s b
    || toward South a s && toward South s b || toward SouthWest a s && toward SouthWest s b
    || toward West a s && toward West s b || toward NorthWest a s && toward NorthWest s b

-- Of two squares in one direction from s, the one whose number comes later in that direction lies beyond the other: the
-- squares of a ray, in order outwards, are those of its set, rising or falling.
abbrev pub RaysInOrder : Type 0
RaysInOrder = (d : Direction) (s b c : ℕ) → toward d s b ≡ true → toward d s c ≡ true
    → (if is_rising d then nat_lt b c else nat_lt c b) ≡ true → toward d b c ≡ true

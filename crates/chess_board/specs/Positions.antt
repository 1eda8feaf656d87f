-- What a position is: a man or none on each of the 64 squares, the side to move, the castling rights that are left, and
-- the square that a double step has just passed over, or none.
use Rattle.std.specs.Prelude.{ℕ, List, Option, Some, None, Bool, not, is_some, slice_index_or, slice_set}
use Rattle.chess_board.specs.declared.men.Colour.{Colour}
use Rattle.chess_board.specs.declared.men.Man.{Man}
use Rattle.chess_board.specs.declared.men.Rights.{Rights}

pub record Setup : Type 0 where
  pub men : List (Option Man)  -- 64 places, from a1 to h8
  pub side : Colour
  pub rights : Rights
  pub target : Option ℕ

-- the man on a square
abbrev pub man_at : List (Option Man) → ℕ → Option Man
man_at men square = slice_index_or men square None

abbrev pub is_empty : List (Option Man) → ℕ → Bool
is_empty men square = not (is_some (man_at men square))

-- the men without the one on a square
abbrev pub cleared : List (Option Man) → ℕ → List (Option Man)
cleared men square = slice_set men square None

-- the men once a man went from one square to another, where it takes the place of what stood there
abbrev pub moved : List (Option Man) → ℕ → ℕ → Man → List (Option Man)
moved men a b man = slice_set (cleared men a) b (Some man)

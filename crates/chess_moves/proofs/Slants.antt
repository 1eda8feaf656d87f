-- A diagonal step, by its gaps of file and rank.
use Rattle.std.proofs.Common.{◌≡◌, ℕ, ◌+◌, ◌/◌, ◌%◌, ◌<◌, true, arith}
use Rattle.chess_board.specs.Squares.{gap, file_gap, rank_gap}
use Rattle.chess_moves.specs.inside.Directions.{is_north_east, is_north_west}
use Rattle.chess_moves.proofs.Geometry.{north_east_says, north_east_from, north_west_says, north_west_from}

pub slant_east : (a b : ℕ) → file_gap a b ≡ rank_gap a b → a % 8 < b % 8 → a / 8 < b / 8 → is_north_east a b ≡ true
slant_east a b e l k = north_east_from a b (rises (a % 8) (b % 8) (a / 8) (b / 8) e l k) k
  where
    rises : (i j m n : ℕ) → gap i j ≡ gap m n → i < j → m < n → i + n ≡ j + m
    rises i j m n e l k = omega arith

pub slant_west : (a b : ℕ) → file_gap a b ≡ rank_gap a b → b % 8 < a % 8 → a / 8 < b / 8 → is_north_west a b ≡ true
slant_west a b e l k = north_west_from a b (falls (a % 8) (b % 8) (a / 8) (b / 8) e l k) k
  where
    falls : (i j m n : ℕ) → gap i j ≡ gap m n → j < i → m < n → i + m ≡ j + n
    falls i j m n e l k = omega arith

pub east_gaps : (a b : ℕ) → is_north_east a b ≡ true → file_gap a b ≡ rank_gap a b
east_gaps a b h = rises (a % 8) (b % 8) (a / 8) (b / 8) (north_east_says a b h).0
  where
    rises : (i j m n : ℕ) → i + n ≡ j + m → gap i j ≡ gap m n
    rises i j m n e = omega arith

pub west_gaps : (a b : ℕ) → is_north_west a b ≡ true → file_gap a b ≡ rank_gap a b
west_gaps a b h = falls (a % 8) (b % 8) (a / 8) (b / 8) (north_west_says a b h).0
  where
    falls : (i j m n : ℕ) → i + m ≡ j + n → gap i j ≡ gap m n
    falls i j m n e = omega arith

pub gaps_back : (a b : ℕ) → file_gap a b ≡ rank_gap a b → file_gap b a ≡ rank_gap b a
gaps_back a b e = turned (a % 8) (b % 8) (a / 8) (b / 8) e
  where
    turned : (i j m n : ℕ) → gap i j ≡ gap m n → gap j i ≡ gap n m
    turned i j m n e = omega arith

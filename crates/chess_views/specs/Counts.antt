-- The lines of play counted, also by their first moves.
use Rattle.std.specs.Prelude.{◌≡◌, ◌++◌, ℕ, zero, suc, List, [], codes, decimal, flat_map, length, sum_by}
use Rattle.chess_board.specs.Fens.{FenValue}
use Rattle.chess_board.specs.MakeMove.{after_setup}
use Rattle.chess_board.specs.Moves.{Move, move_text}
use Rattle.chess_board.specs.Positions.{Setup}
use Rattle.chess_moves.specs.inside.Listing.{legal_moves}
use Rattle.chess_moves.specs.Plays.{plays}
use Rattle.chess_views.specs.Lines.{line}

-- how many lines of so many legal moves there are
unfoldable pub perft_text : ℕ → FenValue → List ℕ
perft_text depth v = line (decimal (length (plays v.position depth)))

-- how many lines go on with so many moves after this one
abbrev pub count_behind : Setup → ℕ → Move → ℕ
count_behind p d m = length (plays (after_setup p m) d)

-- the coordinates of a move, and that number
abbrev pub share_line : Setup → ℕ → Move → List ℕ
share_line p d m = line (move_text m ++ codes ": " ++ decimal (count_behind p d m))

-- For each legal move, in move order, how many lines begin with it. The line of no moves begins with none.
unfoldable pub shares_text : Setup → ℕ → List ℕ
shares_text p zero = []
shares_text p (suc d) = flat_map (share_line p d) (legal_moves p)

-- the lines by their first moves, then how many there are together
unfoldable pub divided_text : ℕ → FenValue → List ℕ
divided_text depth v = shares_text v.position depth ++ perft_text depth v

-- Together the shares are the count.
abbrev pub DivisionSums : Type 0
DivisionSums = (p : Setup) (d : ℕ) → sum_by (count_behind p d) (legal_moves p) ≡ length (plays p (suc d))

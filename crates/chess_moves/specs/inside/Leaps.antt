-- Not for believing: where a man goes that nothing in between can stop: a knight's leap, a king's step, and what pawns do (FIDE
-- Laws of Chess, articles 3.6 to 3.8).
use Rattle.std.specs.Prelude.{ℕ, Bool, not, ◌&&◌, ◌||◌, ◌==◌, nat_le}
use Rattle.chess_board.specs.declared.men.Colour.{Colour}
use Rattle.chess_board.specs.declared.men.Colour.TheVariants.{White, Black}
use Rattle.chess_board.specs.Squares.{file_of, rank_of, file_gap, rank_gap}
use Rattle.chess_board.specs.Attacks.{is_forward}
use Rattle.chess_board.specs.PseudoLegal.{second_rank}
use Rattle.chess_moves.specs.declared.directions.Leap.{Leap}
use Rattle.chess_moves.specs.declared.directions.Leap.TheVariants.{KnightLeap, KingStep, WhiteCapture, BlackCapture}
use Rattle.chess_moves.specs.declared.directions.Leap.TheVariants.{WhiteStep, BlackStep, WhiteDouble, BlackDouble}

-- a pawn captures one rank ahead on a file beside its own
abbrev pub is_pawn_capture : Colour → ℕ → ℕ → Bool
is_pawn_capture colour a b = (file_gap a b == 1) && is_forward colour 1 a b

-- a pawn steps ahead on its file
abbrev pub is_step : Colour → ℕ → ℕ → Bool
is_step colour a b = is_forward colour 1 a b && (file_of a == file_of b)

-- a pawn on its second rank goes two ranks ahead on its file
abbrev pub is_double : Colour → ℕ → ℕ → Bool
is_double colour a b = is_forward colour 2 a b && (file_of a == file_of b) && (rank_of a == second_rank colour)

unfoldable pub leaps : Leap → ℕ → ℕ → Bool
leaps KnightLeap a b = ((file_gap a b == 1) && (rank_gap a b == 2)) || ((file_gap a b == 2) && (rank_gap a b == 1))
leaps KingStep a b = not (a == b) && nat_le (file_gap a b) 1 && nat_le (rank_gap a b) 1
leaps WhiteCapture a b = is_pawn_capture White a b
leaps BlackCapture a b = is_pawn_capture Black a b
leaps WhiteStep a b = is_step White a b
leaps BlackStep a b = is_step Black a b
leaps WhiteDouble a b = is_double White a b
leaps BlackDouble a b = is_double Black a b

-- the place of a leap among the eight
abbrev pub place_of : Leap → ℕ
place_of KnightLeap = 0
place_of KingStep = 1
place_of WhiteCapture = 2
place_of BlackCapture = 3
place_of WhiteStep = 4
place_of BlackStep = 5
place_of WhiteDouble = 6
place_of BlackDouble = 7

-- what a colour's pawns do
abbrev pub capture_of : Colour → Leap
capture_of White = WhiteCapture
capture_of Black = BlackCapture

abbrev pub step_of : Colour → Leap
step_of White = WhiteStep
step_of Black = BlackStep

abbrev pub double_of : Colour → Leap
double_of White = WhiteDouble
double_of Black = BlackDouble

-- the leap back from a square to the colour's pawns that attack it
abbrev pub capture_back : Colour → Leap
capture_back White = BlackCapture
capture_back Black = WhiteCapture

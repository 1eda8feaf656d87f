-- Castling (FIDE Laws of Chess, article 3.8): where king and rook stand before and after it, when it is allowed, on which wing a move
-- castles, and how a right to it is lost.
use Rattle.std.specs.Prelude.{ℕ, List, Option, Bool, ◌&&◌, ◌||◌, not, ◌==◌, nat_lt, if◌then◌else◌}
use Rattle.chess_board.specs.declared.men.Colour.{Colour}
use Rattle.chess_board.specs.declared.men.Colour.TheVariants.{White, Black}
use Rattle.chess_board.specs.declared.men.Kind.TheVariants.{Rook, King}
use Rattle.chess_board.specs.declared.men.Wing.{Wing}
use Rattle.chess_board.specs.declared.men.Wing.TheVariants.{KingSide, QueenSide}
use Rattle.chess_board.specs.declared.men.Man.{Man}
use Rattle.chess_board.specs.declared.men.Rights.{Rights}
use Rattle.chess_board.specs.Squares.{file_gap, crossed}
use Rattle.chess_board.specs.Men.{other_side, is_kind, has_right_of}
use Rattle.chess_board.specs.Positions.{Setup, moved}
use Rattle.chess_board.specs.Moves.{Move}
use Rattle.chess_board.specs.Attacks.{is_clear, is_attacked}

-- where the king stands before it castles: e1 or e8
abbrev pub king_home : Colour → ℕ
king_home White = 4
king_home Black = 60

-- where the rook stands before it castles: h1, a1, h8 or a8
abbrev pub rook_home : Colour → Wing → ℕ
rook_home White KingSide = 7
rook_home White QueenSide = 0
rook_home Black KingSide = 63
rook_home Black QueenSide = 56

-- where the king goes that castles: g1, c1, g8 or c8
abbrev pub king_goal : Colour → Wing → ℕ
king_goal White KingSide = 6
king_goal White QueenSide = 2
king_goal Black KingSide = 62
king_goal Black QueenSide = 58

-- The king castles on a wing while it has the right, no man stands between it and the rook, and neither the square on which it
-- stands, nor the one that it crosses, nor the one that it reaches is attacked (article 3.8.2).
abbrev pub castles_to : Setup → Colour → Wing → ℕ → ℕ → Bool
castles_to p colour wing a b =
    has_right_of p.rights colour wing && (a == king_home colour) && (b == king_goal colour wing)
    && is_clear p.men a (rook_home colour wing)
    && not (is_attacked p.men a (other_side colour)) && not (is_attacked p.men (crossed a b) (other_side colour))
    && not (is_attacked p.men b (other_side colour))

abbrev pub castles : Setup → Colour → ℕ → ℕ → Bool
castles p colour a b = castles_to p colour KingSide a b || castles_to p colour QueenSide a b

-- The king goes two files: it castles (article 3.8.2).
abbrev pub is_castling : Man → Move → Bool
is_castling man m = is_kind King man.kind && (file_gap m.origin m.target == 2)

-- the wing towards which the king goes
abbrev pub wing_of : ℕ → ℕ → Wing
wing_of a b = if nat_lt a b then KingSide else QueenSide

abbrev pub rook : Colour → Man
rook colour = record { colour = colour; kind = Rook }

-- the men once the rook of a castling king went to the square that the king has crossed (article 3.8.2)
abbrev pub castled : List (Option Man) → Colour → ℕ → ℕ → List (Option Man)
castled men colour a b = moved men (rook_home colour (wing_of a b)) (crossed a b) (rook colour)

-- The move leaves the square or reaches it.
abbrev pub touches : Move → ℕ → Bool
touches m square = (m.origin == square) || (m.target == square)

-- A right is lost when its king or its rook moves, and when its rook is captured at home (article 3.8.2).
abbrev pub right_after : Rights → Move → Colour → Wing → Bool
right_after rights m colour wing =
    has_right_of rights colour wing && not (touches m (king_home colour)) && not (touches m (rook_home colour wing))

abbrev pub rights_after : Rights → Move → Rights
rights_after rights m = record {
  white_king_side = right_after rights m White KingSide;
  white_queen_side = right_after rights m White QueenSide;
  black_king_side = right_after rights m Black KingSide;
  black_queen_side = right_after rights m Black QueenSide;
}

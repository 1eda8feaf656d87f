-- Not for believing: one side's men as sets of squares.
use Rattle.std.specs.Prelude.{Bool, true, false, ◌&&◌, List, Option, None, Some}
use Rattle.chess_board.specs.declared.men.Colour.{Colour}
use Rattle.chess_board.specs.declared.men.Kind.{Kind}
use Rattle.chess_board.specs.declared.men.Kind.TheVariants.{Knight, Bishop, Rook, Queen}
use Rattle.chess_board.specs.declared.men.Man.{Man}
use Rattle.chess_board.specs.Men.{is_colour, is_kind}
use Rattle.chess_board.specs.inside.KindTests.{is_pawn_kind, is_king_kind}
use Rattle.chess_board.specs.Sets.{IsSetOf}
use Rattle.chess_moves.specs.declared.side_men.SideMen.{SideMen}

abbrev pub is_knight_kind : Kind → Bool
is_knight_kind kind = is_kind Knight kind

-- bishops and queens
abbrev pub is_diagonal_kind : Kind → Bool
is_diagonal_kind Bishop = true
is_diagonal_kind Queen = true
is_diagonal_kind _ = false

-- rooks and queens
abbrev pub is_straight_kind : Kind → Bool
is_straight_kind Rook = true
is_straight_kind Queen = true
is_straight_kind _ = false

-- a man of the colour whose kind passes
abbrev pub is_one : Colour → (Kind → Bool) → Option Man → Bool
is_one colour passes None = false
is_one colour passes (Some man) = is_colour colour man.colour && passes man.kind

-- The sets are those of the colour's men; a queen stands in two of them.
pub record StandFor (side_men : SideMen) (by : Colour) (men : List (Option Man)) : Type 0 where
  pub pawns : IsSetOf side_men.pawns (is_one by is_pawn_kind) men
  pub knights : IsSetOf side_men.knights (is_one by is_knight_kind) men
  pub diagonal : IsSetOf side_men.diagonal (is_one by is_diagonal_kind) men
  pub straight : IsSetOf side_men.straight (is_one by is_straight_kind) men
  pub king : IsSetOf side_men.king (is_one by is_king_kind) men

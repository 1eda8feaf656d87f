-- Not for believing: the squares of White's men and of Black's, by which a memo's filter tells positions apart.
use Rattle.std.specs.Prelude.{◌≡◌, false, List, Option, None}
use Rattle.chess_board.specs.declared.men.Colour.TheVariants.{White, Black}
use Rattle.chess_board.specs.declared.men.Wing.TheVariants.{KingSide, QueenSide}
use Rattle.chess_board.specs.declared.men.Man.{Man}
use Rattle.chess_board.specs.Men.{is_of, has_right_of}
use Rattle.chess_board.specs.Positions.{Setup}
use Rattle.chess_board.specs.Sets.{IsSetOf}
use Rattle.mate_search.specs.declared.side_occupancy.SideOccupancy.{SideOccupancy}

-- On exactly these squares a man of White stands, and on exactly those one of Black.
pub record IsOccupancyOf (o : SideOccupancy) (men : List (Option Man)) : Type 0 where
  pub white : IsSetOf o.white (is_of White) men
  pub black : IsSetOf o.black (is_of Black) men

-- The side to move may castle on no wing, and there is no en passant target.
pub record IsPlain (p : Setup) : Type 0 where
  pub king_side : has_right_of p.rights p.side KingSide ≡ false
  pub queen_side : has_right_of p.rights p.side QueenSide ≡ false
  pub target : p.target ≡ None

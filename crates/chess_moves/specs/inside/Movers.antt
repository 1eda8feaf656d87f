-- Not for believing: men of the side to move, each on its square.
use Rattle.std.specs.Prelude.{◌≡◌, ◌<◌, Some}
use Rattle.chess_board.specs.declared.men.Kind.TheVariants.{King}
use Rattle.chess_board.specs.Positions.{Setup, man_at}
use Rattle.chess_moves.specs.declared.legality_info.LegalityInfo.{LegalityInfo}
use Rattle.chess_moves.specs.declared.movers.Mover.{Mover}

-- The man stands on the square, and is one of the side to move.
pub record IsMoverOf (mover : Mover) (p : Setup) : Type 0 where
  pub on_board : mover.origin < 64
  pub there : man_at p.men mover.origin ≡ Some mover.man
  pub own : mover.man.colour ≡ p.side

-- the king of the side to move
abbrev pub king_of : LegalityInfo → Mover
king_of info = record { man = record { colour = info.side; kind = King }; origin = info.king }

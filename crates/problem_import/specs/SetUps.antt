-- What position men make that are listed one by one (own to this project).
use Rattle.std.specs.Prelude.{◌≡◌, ◌<◌, ℕ, List, Bool, ◌&&◌, Option, None}
use Rattle.chess_board.specs.Castling.{king_home, rook_home}
use Rattle.chess_board.specs.Men.{has_right_of, is_man}
use Rattle.chess_board.specs.Positions.{Setup, man_at}
use Rattle.chess_board.specs.declared.men.Colour.{Colour}
use Rattle.chess_board.specs.declared.men.Colour.TheVariants.{White}
use Rattle.chess_board.specs.declared.men.Kind.TheVariants.{Rook, King}
use Rattle.chess_board.specs.declared.men.Man.{Man}
use Rattle.chess_board.specs.declared.men.Wing.{Wing}

-- A right to castle is left where king and rook stand at home (Codex for Chess Composition, article 16).
abbrev pub is_right : List (Option Man) → Colour → Wing → Bool
is_right men colour wing = is_man colour King (man_at men (king_home colour)) && is_man colour Rook (man_at men (rook_home colour wing))

-- The position has the man on each square that stands there, and White moves.
pub record IsSetBy (man_on : ℕ → Option Man) (p : Setup) : Type 0 where
  pub men : (square : ℕ) → square < 64 → man_at p.men square ≡ man_on square
  pub side : p.side ≡ White
  pub rights : (colour : Colour) (wing : Wing) → has_right_of p.rights colour wing ≡ is_right p.men colour wing
  pub target : p.target ≡ None

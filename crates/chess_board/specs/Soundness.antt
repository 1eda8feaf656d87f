-- Which positions are sound: what every `Position` keeps. Whether a position can arise in a game is not asked.
use Rattle.std.specs.Prelude.{◌≡◌, ℕ, ◌+◌, ◌-◌, ◌≤◌, List, Option, length, Bool, true, false, count_by, ◌&&◌, ◌||◌, not, ◌==◌, nat_lt}
use Rattle.std.specs.Option.{option_map_or}
use Rattle.chess_board.specs.declared.men.Colour.{Colour}
use Rattle.chess_board.specs.declared.men.Colour.TheVariants.{White, Black}
use Rattle.chess_board.specs.declared.men.Kind.TheVariants.{Pawn, Rook, King}
use Rattle.chess_board.specs.declared.men.Wing.{Wing}
use Rattle.chess_board.specs.declared.men.Wing.TheVariants.{KingSide, QueenSide}
use Rattle.chess_board.specs.declared.men.Man.{Man}
use Rattle.chess_board.specs.declared.men.Rights.{Rights}
use Rattle.chess_board.specs.Squares.{rank_of, each_square}
use Rattle.chess_board.specs.Men.{other_side, is_of, is_man, is_pawn, has_right_of}
use Rattle.chess_board.specs.Positions.{Setup, man_at, is_empty}
use Rattle.chess_board.specs.Attacks.{is_in_check}
use Rattle.chess_board.specs.Castling.{king_home, rook_home}

-- what holds of White and of Black
abbrev pub BothSides : (Colour → Type 0) → Type 0
BothSides P = P White × P Black

-- Each side has exactly one king (FIDE Laws of Chess, article 2).
abbrev pub HasOneKingEach : List (Option Man) → Type 0
HasOneKingEach men = BothSides (λ colour. count_by (is_man colour King) men ≡ 1)

-- No side has more than 16 men (article 2).
abbrev pub HasAtMostSixteenEach : List (Option Man) → Type 0
HasAtMostSixteenEach men = BothSides (λ colour. count_by (is_of colour) men ≤ 16)

-- no pawn, or one that stands neither on rank 1 nor on rank 8
abbrev pub is_no_end_pawn : Option Man → ℕ → Bool
is_no_end_pawn place square = not (is_pawn place) || (nat_lt 0 (rank_of square) && nat_lt (rank_of square) 7)

-- No pawn stands on rank 1 or 8 (article 3.7: on the last rank it has become another man).
abbrev pub has_no_end_pawn : List (Option Man) → Bool
has_no_end_pawn men = each_square (λ square. is_no_end_pawn (man_at men square) square)

-- A right of castling has its king and its rook at home (article 3.8).
abbrev pub has_men_of_right : List (Option Man) → Rights → Colour → Wing → Bool
has_men_of_right men rights colour wing =
    not (has_right_of rights colour wing)
    || (is_man colour King (man_at men (king_home colour)) && is_man colour Rook (man_at men (rook_home colour wing)))

abbrev pub has_men_of_rights : List (Option Man) → Rights → Bool
has_men_of_rights men rights =
    has_men_of_right men rights White KingSide && has_men_of_right men rights White QueenSide
    && has_men_of_right men rights Black KingSide && has_men_of_right men rights Black QueenSide

-- An en passant target is an empty square on the sixth rank of the side to move; the enemy pawn that passed over it stands
-- just beyond, and the square that this pawn came from is empty (article 3.7).
abbrev pub has_pawn_of_target : List (Option Man) → Colour → ℕ → Bool
has_pawn_of_target men White target =
    (rank_of target == 5) && is_empty men target && is_man Black Pawn (man_at men (target - 8)) && is_empty men (target + 8)
has_pawn_of_target men Black target =
    (rank_of target == 2) && is_empty men target && is_man White Pawn (man_at men (target + 8)) && is_empty men (target - 8)

abbrev pub has_pawn_of_some_target : Setup → Bool
has_pawn_of_some_target p = option_map_or (has_pawn_of_target p.men p.side) p.target true

-- The king of the side that is not to move is attacked: it could be captured (article 3.9.2).
abbrev pub is_opponent_in_check : Setup → Bool
is_opponent_in_check p = is_in_check p.men (other_side p.side)

pub record IsSound (p : Setup) : Type 0 where
  pub squares : length p.men ≡ 64
  pub kings : HasOneKingEach p.men
  pub pawns : has_no_end_pawn p.men ≡ true
  pub few : HasAtMostSixteenEach p.men
  pub rights : has_men_of_rights p.men p.rights ≡ true
  pub target : has_pawn_of_some_target p ≡ true
  pub safe : is_opponent_in_check p ≡ false

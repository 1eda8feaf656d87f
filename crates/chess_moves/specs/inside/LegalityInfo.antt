-- Not for believing: the legality information of a position: it, and what is the same for all its moves, as sets of squares.
use Rattle.std.specs.Prelude.{◌≡◌, ℕ, ◌<◌, Bool, false, not, ◌&&◌, ◌||◌, ◌==◌, None, is_some, slice_set}
use Rattle.square_sets.specs.Members.{has}
use Rattle.chess_board.specs.declared.men.Kind.TheVariants.{King}
use Rattle.chess_board.specs.declared.men.Man.{Man}
use Rattle.chess_board.specs.Squares.{some_square}
use Rattle.chess_board.specs.Attacks.{is_attacked}
use Rattle.chess_board.specs.Men.{other_side, is_colour, is_of, man_of}
use Rattle.chess_board.specs.Positions.{Setup, man_at, moved}
use Rattle.chess_board.specs.Sets.{IsSetOf}
use Rattle.chess_board.specs.Soundness.{IsSound}
use Rattle.chess_moves.specs.declared.legality_info.LegalityInfo.{LegalityInfo}
use Rattle.chess_moves.specs.inside.Directions.{stands_between}
use Rattle.chess_moves.specs.inside.Hits.{hits_from, is_hit}
use Rattle.chess_moves.specs.inside.SideMen.{StandFor}

-- a man on t neither takes the attacker on a nor stands between it and the king
abbrev pub gets_through : ℕ → ℕ → ℕ → Bool
gets_through a king t = not (t == a || stands_between a king t)

-- a man on t leaves no attack on the king: it takes, or stands in the way of, each man that gives check
abbrev pub is_in_check_mask : Setup → ℕ → ℕ → Bool
is_in_check_mask p king t = not (some_square (λ a. hits_from p.men (other_side p.side) a king && gets_through a king t))

pub record IsLegalityInfoOf (info : LegalityInfo) (p : Setup) : Type 0 where
  pub side : info.side ≡ p.side
  pub occupied : IsSetOf info.occupied is_some p.men
  pub own : IsSetOf info.own (is_of p.side) p.men
  pub enemy : StandFor info.enemy (other_side p.side) p.men
  pub on_board : info.king < 64
  pub king : man_at p.men info.king ≡ man_of p.side King
  -- a man that goes from a square outside of these opens no attack on the king
  pub pin_squares : (o a : ℕ) → o < 64 → a < 64 → has info.pin_squares o ≡ false → is_of (other_side p.side) (man_at p.men o) ≡ false
      → hits_from (slice_set p.men o None) (other_side p.side) a info.king ≡ hits_from p.men (other_side p.side) a info.king
  -- and the check mask tells where it may go
  pub check_mask : (o t : ℕ) → o < 64 → t < 64 → has info.pin_squares o ≡ false → has info.check_mask t ≡ is_in_check_mask p info.king t
  pub sound : IsSound p

-- The sets and the king are those of its own position.
abbrev pub IsLegalityInfo : LegalityInfo → Type 0
IsLegalityInfo info = IsLegalityInfoOf info info.position.now

-- the king of the side to move is attacked
abbrev pub is_king_attacked : LegalityInfo → Bool
is_king_attacked info = is_attacked info.position.now.men info.king (other_side info.position.now.side)

-- The set has the squares to which a man that goes there from the origin, other than the king, leaves its king safe.
abbrev pub IsSafetyMask : ℕ → LegalityInfo → ℕ → Type 0
IsSafetyMask mask info origin = (man : Man) → is_of (other_side info.position.now.side) (man_at info.position.now.men origin) ≡ false
    → is_colour (other_side info.position.now.side) man.colour ≡ false → (t : ℕ) → t < 64
    → has mask t ≡ not (is_hit (moved info.position.now.men origin t man) info.king (other_side info.position.now.side))

-- the same with other squares of pins and another check mask
abbrev pub with_checks_and_pins : LegalityInfo → ℕ → ℕ → LegalityInfo
with_checks_and_pins info pins mask =
    record {
      rays = info.rays;
      position = info.position;
      side = info.side;
      occupied = info.occupied;
      own = info.own;
      enemy = info.enemy;
      king = info.king;
      pin_squares = pins;
      check_mask = mask;
    }

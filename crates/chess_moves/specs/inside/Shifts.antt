-- Not for believing: pawns moved ahead as a set: the numbers of their squares rise for White, and fall for Black.
use Rattle.std.specs.Prelude.{◌≡◌, ℕ, ◌<◌, ◌+◌, ◌-◌, Bool, true, false, nat_le, nat_lt}
use Rattle.square_sets.specs.Members.{has}
use Rattle.chess_board.specs.declared.men.Colour.{Colour}
use Rattle.chess_board.specs.declared.men.Colour.TheVariants.{White, Black}
use Rattle.chess_board.specs.Positions.{Setup}
use Rattle.chess_board.specs.EnPassant.{takes_en_passant}
use Rattle.chess_moves.specs.declared.legality_info.LegalityInfo.{LegalityInfo}

-- There is a square so many numbers behind t.
abbrev pub is_shifted : Colour → ℕ → ℕ → Bool
is_shifted White gap t = nat_le gap t
is_shifted Black gap t = nat_lt (t + gap) 64

-- that square
abbrev pub back : Colour → ℕ → ℕ → ℕ
back White gap t = t - gap
back Black gap t = t + gap

-- the files that end the board to the left of a colour's pawns, and to their right
abbrev pub left_file : Colour → ℕ
left_file White = 0
left_file Black = 7

abbrev pub right_file : Colour → ℕ
right_file White = 7
right_file Black = 0

-- the rank before the last, from which a pawn is promoted
unfoldable pub rank_before : Colour → ℕ
rank_before White = 6
rank_before Black = 1

-- the rank that a pawn passes over with a double step
abbrev pub third_rank : Colour → ℕ
third_rank White = 2
third_rank Black = 5

-- No pawn of the set can be pinned, and none captures en passant.
abbrev pub AreFree : ℕ → LegalityInfo → Setup → Type 0
AreFree pawns info p = (o : ℕ) → o < 64 → has pawns o ≡ true
    → (has info.pin_squares o ≡ false) × ((t : ℕ) → t < 64 → takes_en_passant p info.side o t ≡ false)

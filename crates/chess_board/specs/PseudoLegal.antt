-- Pseudo-legal moves: what the rules allow each kind of man, whatever becomes of its king (FIDE Laws of Chess, articles 3.1 to 3.8).
use Rattle.std.specs.Prelude.{ℕ, List, Option, Some, None, Bool, true, false, ◌&&◌, ◌||◌, not, ◌==◌}
use Rattle.chess_board.specs.declared.men.Colour.{Colour}
use Rattle.chess_board.specs.declared.men.Colour.TheVariants.{White, Black}
use Rattle.chess_board.specs.declared.men.Kind.{Kind}
use Rattle.chess_board.specs.declared.men.Kind.TheVariants.{Pawn, King}
use Rattle.chess_board.specs.declared.men.Man.{Man}
use Rattle.chess_board.specs.Moves.{Move}
use Rattle.chess_board.specs.Squares.{file_of, rank_of, crossed}
use Rattle.chess_board.specs.Positions.{Setup, man_at, is_empty}
use Rattle.chess_board.specs.Men.{other_side, is_colour, is_of, is_kind}
use Rattle.chess_board.specs.Attacks.{is_forward, attacks_as}
use Rattle.chess_board.specs.Castling.{castles}
use Rattle.chess_board.specs.EnPassant.{takes_en_passant}

-- the rank on which a colour's pawns start, and the one on which they become other men
abbrev pub second_rank : Colour → ℕ
second_rank White = 1
second_rank Black = 6

abbrev pub last_rank : Colour → ℕ
last_rank White = 7
last_rank Black = 0

-- A pawn steps to the square in front of it, which is empty (article 3.7.1).
abbrev pub steps_once : List (Option Man) → Colour → ℕ → ℕ → Bool
steps_once men colour a b = is_forward colour 1 a b && (file_of a == file_of b) && is_empty men b

-- From its second rank it may step over one square to the next; both are empty (article 3.7.2).
abbrev pub steps_twice : List (Option Man) → Colour → ℕ → ℕ → Bool
steps_twice men colour a b =
    is_forward colour 2 a b && (file_of a == file_of b) && (rank_of a == second_rank colour) && is_empty men (crossed a b) && is_empty men b

-- A man captures where it attacks and an enemy stands (article 3.1; for a pawn, 3.7.3).
abbrev pub takes : List (Option Man) → Colour → Kind → ℕ → ℕ → Bool
takes men colour kind a b = attacks_as men colour kind a b && is_of (other_side colour) (man_at men b)

abbrev pub pawn_goes : Setup → Colour → ℕ → ℕ → Bool
pawn_goes p colour a b =
    steps_once p.men colour a b || steps_twice p.men colour a b || takes p.men colour Pawn a b || takes_en_passant p colour a b

-- Any other man goes where it attacks, but not to a man of its own (articles 3.1 to 3.6 and 3.8.1).
abbrev pub piece_goes : Setup → Colour → Kind → ℕ → ℕ → Bool
piece_goes p colour kind a b = attacks_as p.men colour kind a b && not (is_of colour (man_at p.men b))

-- A man of this colour and kind may go from a to b.
abbrev pub goes : Setup → Colour → Kind → ℕ → ℕ → Bool
goes p colour Pawn a b = pawn_goes p colour a b
goes p colour King a b = piece_goes p colour King a b || castles p colour a b
goes p colour kind a b = piece_goes p colour kind a b

-- A pawn becomes a queen, a rook, a bishop or a knight (article 3.7).
abbrev pub is_promotion : Kind → Bool
is_promotion Pawn = false
is_promotion King = false
is_promotion _ = true

-- The man is a pawn that goes to its last rank.
abbrev pub promotes : Man → ℕ → Bool
promotes man b = is_kind Pawn man.kind && (rank_of b == last_rank man.colour)

-- A pawn on its last rank becomes another man, and no man does so anywhere else (article 3.7).
abbrev pub suits : Man → ℕ → Option Kind → Bool
suits man b None = not (promotes man b)
suits man b (Some kind) = promotes man b && is_promotion kind

-- what the rules allow the man, or none, that stands on the origin
abbrev pub man_may : Setup → Option Man → Move → Bool
man_may p None m = false
man_may p (Some man) m = is_colour man.colour p.side && suits man m.target m.promotion && goes p man.colour man.kind m.origin m.target

-- The rules allow the move, whatever becomes of the mover's king.
unfoldable pub is_pseudo_legal : Setup → Move → Bool
is_pseudo_legal p m = man_may p (man_at p.men m.origin) m

-- The FEN that moves lead to: the position after a move with its two counters, and words that name moves, played one after the other.
use Rattle.std.specs.Prelude.{ℕ, ◌+◌, min, List, [], ◌∷◌, Result, Ok, Err, Bool, ◌||◌, not, if◌then◌else◌}
use Rattle.std.specs.Option.{option_map_or}
use Rattle.chess_board.specs.declared.men.Colour.TheVariants.{Black}
use Rattle.chess_board.specs.Men.{is_colour, is_pawn}
use Rattle.chess_board.specs.Positions.{Setup, man_at, is_empty}
use Rattle.chess_board.specs.Moves.{Move}
use Rattle.chess_board.specs.MakeMove.{after_setup}
use Rattle.chess_board.specs.Fens.{FenValue}
use Rattle.chess_notation.specs.MoveReading.{move_named}

-- A pawn moves, or a man is captured. What captures en passant is a pawn.
abbrev pub is_zeroing : Setup → Move → Bool
is_zeroing p m = is_pawn (man_at p.men m.origin) || not (is_empty p.men m.target)

-- one more, but a counter that stands at 9999, the greatest that is read, stays there; that it does is own to this project
abbrev pub next_count : ℕ → ℕ
next_count n = min (n + 1) 9999

-- the halfmoves since the last move of a pawn or capture (PGN Specification, section 16.1.3.5)
abbrev pub halfmove_after : FenValue → Move → ℕ
halfmove_after v m = if is_zeroing v.position m then 0 else next_count v.halfmove

-- the number of the full move, which goes on after Black's (section 16.1.3.6)
abbrev pub fullmove_after : FenValue → ℕ
fullmove_after v = if is_colour Black v.position.side then next_count v.fullmove else v.fullmove

-- the FEN after a move
abbrev pub fen_after : FenValue → Move → FenValue
fen_after v m = record { position = after_setup v.position m; halfmove = halfmove_after v m; fullmove = fullmove_after v }

-- The FEN that words lead to, the first of which has this number; or the number of the first word that names no legal move of the
-- position before it.
unfoldable pub played_from : ℕ → FenValue → List (List ℕ) → Result FenValue ℕ
played_from number v [] = Ok v
played_from number v (word ∷ words) =
    option_map_or (λ m. played_from (number + 1) (fen_after v m) words) (move_named v.position word) (Err number)

-- The words are counted from 1.
abbrev pub played : FenValue → List (List ℕ) → Result FenValue ℕ
played v words = played_from 1 v words

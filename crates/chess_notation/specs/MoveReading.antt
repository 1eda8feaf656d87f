-- How a word names a move: in SAN as an operand of `am` does, or by coordinates as UCI (Universal Chess Interface, April 2006) writes
-- them, castling as the king goes.
use Rattle.std.specs.Prelude.{ℕ, List, Option, Bool, ◌||◌, find}
use Rattle.chess_board.specs.Positions.{Setup}
use Rattle.chess_board.specs.Moves.{Move, move_text}
use Rattle.chess_moves.specs.inside.Listing.{legal_moves}
use Rattle.chess_notation.specs.Opcodes.{same_text}
use Rattle.chess_notation.specs.AvoidMoves.{names}

-- The word tells the move, by SAN or by coordinates.
abbrev pub tells : Setup → List ℕ → Move → Bool
tells p word m = names p word m || same_text word (move_text m)

-- the legal move that a word tells
unfoldable pub move_named : Setup → List ℕ → Option Move
move_named p word = find (tells p word) (legal_moves p)

-- The legal moves of a FEN, listed.
use Rattle.std.specs.Prelude.{◌++◌, ℕ, List, ◌∷◌, codes, drop, flat_map}
use Rattle.chess_board.specs.Characters.{char}
use Rattle.chess_board.specs.Fens.{FenValue, fen_text}
use Rattle.chess_board.specs.Moves.{Move, move_text}
use Rattle.chess_board.specs.Positions.{Setup}
use Rattle.chess_moves.specs.inside.Listing.{legal_moves}
use Rattle.chess_moves.specs.Verdicts.{verdict_of}
use Rattle.chess_moves.specs.declared.verdicts.Verdict.{Verdict}
use Rattle.chess_moves.specs.declared.verdicts.Verdict.TheVariants.{Play, Mate, Stalemate}
use Rattle.chess_notation.specs.SanText.{san_text}
use Rattle.chess_views.specs.Lines.{cell, line}
use Rattle.chess_views.specs.Played.{fen_after}
use Rattle.chess_views.specs.declared.columns.Columns.{Columns}
use Rattle.chess_views.specs.declared.columns.Columns.TheVariants.{San, Coordinates, SanFen, SanCoordinatesFen}

-- what stands on the line of a move
abbrev pub move_line : Columns → FenValue → Move → List ℕ
move_line San v m = line (san_text v.position m)
move_line Coordinates v m = line (move_text m)
move_line SanFen v m = cell (san_text v.position m) ++ line (fen_text (fen_after v m))
move_line SanCoordinatesFen v m = cell (san_text v.position m) ++ cell (move_text m) ++ line (fen_text (fen_after v m))

-- each legal move on a line, in move order
unfoldable pub list_text : Columns → FenValue → List ℕ
list_text columns v = flat_map (move_line columns v) (legal_moves v.position)

-- the legal moves, or how the game has ended where there is none
abbrev pub text_by : Verdict → Columns → FenValue → List ℕ
text_by Play columns v = list_text columns v
text_by Mate columns v = line (codes "mate")
text_by Stalemate columns v = line (codes "stalemate")

unfoldable pub moves_text : Columns → FenValue → List ℕ
moves_text columns v = text_by (verdict_of v.position) columns v

-- moves in SAN with one space between each two
unfoldable pub spaced_moves : Setup → List Move → List ℕ
spaced_moves p moves = drop 1 (flat_map (λ m. char " " ∷ san_text p m) moves)

abbrev pub words_by : Verdict → Setup → List ℕ
words_by Play p = spaced_moves p (legal_moves p)
words_by Mate p = codes "mate"
words_by Stalemate p = codes "stalemate"

-- the legal moves on one line, in move order, or how the game has ended where there is none
unfoldable pub moves_line : FenValue → List ℕ
moves_line v = line (words_by (verdict_of v.position) v.position)

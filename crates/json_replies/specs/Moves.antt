-- The legal moves of a FEN, or why it is refused, as an object of JSON.
use Rattle.std.specs.Prelude.{ℕ, List, [], ◌++◌, codes, drop, flat_map}
use Rattle.chess_board.specs.Fens.{FenValue, fen_text}
use Rattle.chess_board.specs.Moves.{Move, move_text}
use Rattle.chess_board.specs.Positions.{Setup}
use Rattle.chess_moves.specs.inside.Listing.{legal_moves}
use Rattle.chess_moves.specs.Verdicts.{verdict_of}
use Rattle.chess_moves.specs.declared.verdicts.Verdict.{Verdict}
use Rattle.chess_moves.specs.declared.verdicts.Verdict.TheVariants.{Play, Mate, Stalemate}
use Rattle.chess_notation.specs.SanText.{san_text}
use Rattle.json_replies.specs.Strings.{string}

-- a move in SAN and by its coordinates, behind a comma
abbrev pub move_object : Setup → Move → List ℕ
move_object p m = codes ",{\"san\":" ++ (string (san_text p m) ++ (codes ",\"coordinates\":" ++ (string (move_text m) ++ codes "}")))

unfoldable pub move_objects : Setup → List ℕ
move_objects p = flat_map (move_object p) (legal_moves p)

-- how the game has ended, where there is no move
abbrev pub ending : Verdict → List ℕ
ending Play = []
ending Mate = codes ",\"verdict\":\"mate\""
ending Stalemate = codes ",\"verdict\":\"stalemate\""

-- the legal moves of a FEN in move order, and how the game has ended where there is none
unfoldable pub moves_json : FenValue → List ℕ
moves_json v = codes "{\"fen\":" ++ string (fen_text v) ++ codes ",\"moves\":[" ++ drop 1 (move_objects v.position) ++ codes "]"
    ++ ending (verdict_of v.position) ++ codes "}\n"

-- a FEN that is refused: the name of its fault
unfoldable pub error_json : List ℕ → List ℕ
error_json name = codes "{\"error\":" ++ string name ++ codes "}\n"

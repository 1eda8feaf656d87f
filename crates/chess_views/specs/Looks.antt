-- What is shown of a position: its FEN, how it stands, and its board.
use Rattle.std.specs.Prelude.{◌++◌, ℕ, List, codes, if◌then◌else◌}
use Rattle.chess_board.specs.declared.men.Colour.{Colour}
use Rattle.chess_board.specs.declared.men.Colour.TheVariants.{White, Black}
use Rattle.chess_board.specs.Attacks.{is_in_check}
use Rattle.chess_board.specs.Fens.{FenValue, fen_text}
use Rattle.chess_board.specs.Positions.{Setup}
use Rattle.chess_moves.specs.Verdicts.{verdict_of}
use Rattle.chess_moves.specs.declared.verdicts.Verdict.{Verdict}
use Rattle.chess_moves.specs.declared.verdicts.Verdict.TheVariants.{Play, Mate, Stalemate}
use Rattle.chess_views.specs.Lines.{line}
use Rattle.chess_views.specs.Boards.{board_text}

-- whether the side to move is in check, in words
abbrev pub check_words : Setup → List ℕ
check_words position = if is_in_check position.men position.side then codes "check" else codes "no check"

-- how the game has ended; where it goes on, whether the side to move is in check
abbrev pub standing_by : Verdict → Setup → List ℕ
standing_by Play p = check_words p
standing_by Mate p = codes "mate"
standing_by Stalemate p = codes "stalemate"

abbrev pub side_words : Colour → List ℕ
side_words White = codes "White to move"
side_words Black = codes "Black to move"

-- the FEN in its canonical form, and whether the side to move is in check
unfoldable pub look_text : FenValue → List ℕ
look_text v = line (fen_text v) ++ line (check_words v.position)

-- the same, then the board as a side sees it, and who is to move
unfoldable pub look_board_text : Colour → FenValue → List ℕ
look_board_text from v = look_text v ++ board_text from v.position.men ++ line (side_words v.position.side)

-- the FEN that was reached, in its canonical form, and how its position stands
unfoldable pub reached_text : FenValue → List ℕ
reached_text v = line (fen_text v) ++ line (standing_by (verdict_of v.position) v.position)

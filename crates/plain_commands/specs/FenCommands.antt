-- What the commands over a FEN alone show: `look`, `moves` and `perft`, also of each line of files.
use Rattle.std.specs.Prelude.{◌≡◌, ℕ, Bool, List, [], true, false}
use Rattle.chess_board.specs.Fens.{FenValue, IsFault, Spells}
use Rattle.chess_board.specs.Soundness.{IsSound}
use Rattle.chess_board.specs.declared.faults.FenFault.{FenFault}
use Rattle.chess_board.specs.Faults.{fault_name}
use Rattle.chess_views.specs.Counts.{divided_text, perft_text}
use Rattle.chess_views.specs.Listings.{moves_line, moves_text}
use Rattle.chess_views.specs.Looks.{look_board_text, look_text}
use Rattle.chess_views.specs.declared.columns.Columns.{Columns}
use Rattle.problem_sheets.specs.Diagrams.{svg_of}
use Rattle.json_replies.specs.Moves.{error_json, moves_json}
use Rattle.chess_views.specs.declared.columns.Columns.TheVariants as column
use Rattle.command_words.specs.declared.request.MoveForm.{MoveForm}
use Rattle.command_words.specs.declared.request.MoveForm.TheVariants.{San, Coordinates, SanFen, SanCoordinatesFen}
use Rattle.plain_commands.specs.declared.fen_commands.FenCommand.{FenCommand}
use Rattle.plain_commands.specs.declared.fen_commands.FenCommand.TheVariants.{Look, Board, Svg, Moves, MovesLine, Perft, Divide}

-- what stands on a line of `moves`, by how the moves are to be written
abbrev pub columns_of : MoveForm → Columns
columns_of San = column.San
columns_of Coordinates = column.Coordinates
columns_of SanFen = column.SanFen
columns_of SanCoordinatesFen = column.SanCoordinatesFen

-- what each command shows of a FEN
abbrev pub shown_text : FenCommand → FenValue → List ℕ
shown_text Look v = look_text v
shown_text (Board side) v = look_board_text side v
shown_text (Svg side) v = svg_of side v
shown_text (Moves form) v = moves_text (columns_of form) v
shown_text MovesLine v = moves_line v
shown_text (Perft depth) v = perft_text depth v
shown_text (Divide depth) v = divided_text depth v

-- A text that spells a sound position has shown what there is to show of it; any other is refused by its fault, and nothing
-- is shown.
abbrev pub ShowsFen : (FenValue → List ℕ) → List ℕ → Bool → List ℕ → Type 0
ShowsFen shown fen false gained = (v : FenValue) × Spells fen v × IsSound v.position × (gained ≡ shown v)
ShowsFen shown fen true gained = (fault : FenFault) × IsFault fen fault × (gained ≡ [])

-- In JSON the moves have an object, and so has the fault of a text that is refused.
abbrev pub ShowsMovesJson : List ℕ → Bool → List ℕ → Type 0
ShowsMovesJson fen false gained = (v : FenValue) × Spells fen v × IsSound v.position × (gained ≡ moves_json v)
ShowsMovesJson fen true gained = (fault : FenFault) × IsFault fen fault × (gained ≡ error_json (fault_name fault))

-- one of the two
abbrev pub ShowsObject : List ℕ → List ℕ → Type 0
ShowsObject fen gained = (refused : Bool) × ShowsMovesJson fen refused gained

-- The position that a command says: `startpos` or `fen FEN`, and moves behind `moves` (UCI, April 2006).
use Rattle.std.specs.Prelude.{◌≡◌, ℕ, ◌++◌, List, [], ◌∷◌, Option, None, Some, Ok, Err, codes, if◌then◌else◌, ⊤}
use Rattle.std.specs.Str.{bytes_eq}
use Rattle.chess_board.specs.Fens.{FenValue, IsFault, Spells}
use Rattle.chess_board.specs.Soundness.{IsSound}
use Rattle.chess_views.specs.Played.{played}
use Rattle.position_lines.specs.LineFens.{line_fen, spaced}
use Rattle.uci_commands.specs.Marks.{before, behind}
use Rattle.uci_commands.specs.declared.position_commands.PositionFault.{PositionFault}
use Rattle.uci_commands.specs.declared.position_commands.PositionFault.TheVariants.{NoPosition, Fen, NoSuchMove, TooLong, NoMemory}

-- the position in which a game begins (FIDE Laws of Chess, article 2.3)
abbrev pub start_text : List ℕ
start_text = codes "rnbqkbnr/pppppppp/8/8/8/8/PPPPPPPP/RNBQKBNR w KQkq - 0 1"

-- words, each with a space behind it
abbrev pub spelt : List (List ℕ) → List ℕ
spelt [] = []
spelt (word ∷ words) = spaced word ++ spelt words

-- The FEN that the words behind `position` begin with. Its counters may be left out, as on a line of positions.
unfoldable pub fen_said : List (List ℕ) → Option (List ℕ)
fen_said [] = None
fen_said (kind ∷ words) =
    if bytes_eq kind (codes "startpos") then Some start_text
    else if bytes_eq kind (codes "fen") then Some (line_fen (spelt (before (codes "moves") words)))
    else None

-- What they say: the FEN that the moves lead to from the one that stands there.
pub record Leads (words : List (List ℕ)) (fen : FenValue) : Type 0 where
  pub text : List ℕ
  pub first : FenValue
  pub said : fen_said words ≡ Some text
  pub spells : Spells text first
  pub sound : IsSound first.position
  pub moves : played first (behind (codes "moves") words) ≡ Ok fen

pub record LeadsNowhere (words : List (List ℕ)) (number : ℕ) : Type 0 where
  pub text : List ℕ
  pub first : FenValue
  pub said : fen_said words ≡ Some text
  pub spells : Spells text first
  pub sound : IsSound first.position
  pub moves : played first (behind (codes "moves") words) ≡ Err number

-- Why they say none: they begin with neither, the FEN has a fault, or the word of this number behind `moves` names no legal move.
abbrev pub IsPositionFault : List (List ℕ) → PositionFault → Type 0
IsPositionFault words NoPosition = fen_said words ≡ None
IsPositionFault words (Fen fault) = (text : List ℕ) × (fen_said words ≡ Some text) × IsFault text fault
IsPositionFault words (NoSuchMove number) = LeadsNowhere words number
IsPositionFault words TooLong = ⊥
IsPositionFault words NoMemory = ⊤

-- What `play` shows.
use Rattle.std.specs.Prelude.{◌≡◌, ◌⊎◌, ℕ, Bool, List, [], Ok, Err, true, false}
use Rattle.chess_board.specs.Fens.{FenValue, IsFault, Spells}
use Rattle.chess_board.specs.Soundness.{IsSound}
use Rattle.chess_board.specs.declared.faults.FenFault.{FenFault}
use Rattle.chess_views.specs.Looks.{reached_text}
use Rattle.chess_views.specs.Played.{played}
use Rattle.position_lines.specs.LineFens.{line_fen}

-- The text, read as a line of positions is, spells a sound position, from which one of the words names no legal move, those before it
-- made.
pub record NamesNoMove (fen : List ℕ) (words : List (List ℕ)) : Type 0 where
  pub v : FenValue
  pub number : ℕ
  pub spells : Spells (line_fen fen) v
  pub sound : IsSound v.position
  pub stops : played v words ≡ Err number

-- The moves are made, each from the position before it, and the position reached is shown. A text that says no sound position
-- is refused, and so is a word that names no legal move; then nothing is shown.
abbrev pub ShowsPlay : List ℕ → List (List ℕ) → Bool → List ℕ → Type 0
ShowsPlay fen words false gained = (v : FenValue) × Spells (line_fen fen) v × IsSound v.position × (w : FenValue)
    × (played v words ≡ Ok w) × (gained ≡ reached_text w)
ShowsPlay fen words true gained = (((fault : FenFault) × IsFault (line_fen fen) fault) ⊎ NamesNoMove fen words) × (gained ≡ [])

-- What a line of a position is answered (own to this project).
use Rattle.std.specs.Prelude.{◌≡◌, ◌<◌, ◌≤◌, ℕ, List, [], false, true, length}
use Rattle.chess_board.specs.Fens.{FenValue, IsFault, Spells}
use Rattle.chess_board.specs.Soundness.{IsSound}
use Rattle.chess_board.specs.declared.faults.FenFault.{FenFault}
use Rattle.chess_notation.specs.Records.{max_line}
use Rattle.chess_notation.specs.Words.{is_blank}
use Rattle.chess_notation.specs.declared.epd_faults.EpdFault.TheVariants.{Fen, TooLong}
use Rattle.text_lines.specs.Refusals.{fault_line}
use Rattle.position_lines.specs.LineFens.{line_fen}

-- What one line is answered, and how many refusals that is: nothing where it is blank, what is shown of the FEN that it says, or the
-- fault of that.
pub data IsPositionReply (shown : FenValue → List ℕ) (number : ℕ) (line : List ℕ) : List ℕ → ℕ → Type 0 where
  skipped : is_blank line ≡ true → IsPositionReply shown number line [] 0
  too_long : is_blank line ≡ false → max_line < length line → IsPositionReply shown number line (fault_line number TooLong) 1
  refused : (fault : FenFault) → is_blank line ≡ false → length line ≤ max_line → IsFault (line_fen line) fault
      → IsPositionReply shown number line (fault_line number (Fen fault)) 1
  answered : (v : FenValue) → is_blank line ≡ false → length line ≤ max_line → Spells (line_fen line) v → IsSound v.position
      → IsPositionReply shown number line (shown v) 0

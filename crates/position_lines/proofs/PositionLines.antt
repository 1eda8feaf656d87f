-- The reply to a line that is refused.
use Rattle.std.proofs.Common.{◌≡◌, ◌<◌, ◌≤◌, false, length, Result, Ok, Err, IfOk, ℕ, List}
use Rattle.chess_board.specs.Fens.{FenValue, IsFault}
use Rattle.chess_board.specs.declared.faults.FenFault.{FenFault}
use Rattle.chess_notation.specs.declared.epd_faults.EpdFault.TheVariants as fault
use Rattle.chess_notation.specs.Records.{max_line}
use Rattle.chess_notation.specs.Words.{is_blank}
use Rattle.text_lines.specs.Refusals.{fault_line}
use Rattle.position_lines.specs.LineFens.{line_fen}
use Rattle.position_lines.specs.PositionReplies.{IsPositionReply, refused, too_long}

pub reply_refused : {X E : Type 0} (shown : FenValue → List ℕ) (number : ℕ) (line : List ℕ) (f : FenFault)
    (text : X → List ℕ) (count : X → ℕ) (r : Result X E)
    → is_blank line ≡ false → length line ≤ max_line → IsFault (line_fen line) f
    → IfOk r (λ x. text x ≡ fault_line number (fault.Fen f)) → IfOk r (λ x. count x ≡ 1)
    → IfOk r (λ x. IsPositionReply shown number line (text x) (count x))
reply_refused shown number line f text count (Ok x) filled short first is one = rw (is, one) (refused f filled short first)
reply_refused shown number line f text count (Err e) filled short first is one = tt

pub long_refused : {X E : Type 0} (shown : FenValue → List ℕ) (number : ℕ) (text : X → List ℕ) (count : X → ℕ) (r : Result X E)
    → IfOk r (λ x. text x ≡ fault_line number fault.TooLong) → IfOk r (λ x. count x ≡ 1)
    → IfOk r (λ x. (line : List ℕ) → is_blank line ≡ false → max_line < length line → IsPositionReply shown number line (text x) (count x))
long_refused shown number text count (Ok x) is one = λ line filled long. rw (is, one) (too_long filled long)
long_refused shown number text count (Err e) is one = tt

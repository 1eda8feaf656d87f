-- The reply to a line that is refused.
use Rattle.std.proofs.Common.{◌≡◌, ◌≢◌, ◌<◌, ◌≤◌, ◌⊎◌, false, length, Result, Ok, Err, IfOk, inl, inr, ℕ, List, [], arith}
use Rattle.chess_notation.specs.declared.epd_faults.EpdFault.{EpdFault}
use Rattle.chess_notation.specs.declared.epd_faults.EpdFault.TheVariants as fault
use Rattle.chess_notation.specs.EpdFaults.{IsAmissBy, IsFaultOf, fault_number}
use Rattle.chess_notation.specs.Records.{RecordValue, Reads, max_line}
use Rattle.chess_notation.specs.Words.{is_blank}
use Rattle.text_lines.specs.Refusals.{fault_line}
use Rattle.mate_answers.specs.InputReplies.{IsLineReply, refused}

-- A line with this fault, which is not want of memory, is refused by it.
pub reply_refused : {X E : Type 0} (default number : ℕ) (line : List ℕ) (f : EpdFault) (text : X → List ℕ) (count : X → ℕ) (r : Result X E)
    → is_blank line ≡ false → IsFaultOf line f ⊎ ((f ≡ fault.NoMemory) × ((r : RecordValue) × Reads line default r × (r.rest ≢ [])))
    → IfOk r (λ x. f ≢ fault.NoMemory) → IfOk r (λ x. text x ≡ fault_line number f) → IfOk r (λ x. count x ≡ 1)
    → IfOk r (λ x. IsLineReply default number line (text x) (count x))
reply_refused default number line f text count (Ok x) some (inl first) other is one = rw (is, one) (refused f some first)
reply_refused default number line f text count (Ok x) some (inr memory) other is one = absurd (other memory.0)
reply_refused default number line f text count (Err e) some why other is one = tt

-- Each refusal is one.
pub few_refused : {X E : Type 0} (count : X → ℕ) (r : Result X E) → IfOk r (λ x. count x ≡ 1) → IfOk r (λ x. count x ≤ 1)
few_refused count (Ok x) one = rw one (omega arith)
few_refused count (Err e) one = tt

none_before : (line : List ℕ) (earlier : EpdFault) → fault_number earlier < 1 → ¬ (IsAmissBy line earlier)
none_before line fault.TooLong less = absurd (omega (arith, less))
none_before line fault.NotPrintable less = absurd (omega (arith, less))
none_before line (fault.Fen f) less = absurd (omega (arith, less))
none_before line fault.BadOpcode less = absurd (omega (arith, less))
none_before line fault.BadString less = absurd (omega (arith, less))
none_before line fault.MissingSemicolon less = absurd (omega (arith, less))
none_before line fault.DoubleOpcode less = absurd (omega (arith, less))
none_before line fault.BadBound less = absurd (omega (arith, less))
none_before line fault.BoundTooLarge less = absurd (omega (arith, less))
none_before line fault.BadAvoid less = absurd (omega (arith, less))
none_before line fault.NoMemory less = absurd (omega (arith, less))

-- One that is too long is refused by that, whatever else is amiss.
pub long_refused : {X E : Type 0} (default number : ℕ) (text : X → List ℕ) (count : X → ℕ) (r : Result X E)
    → IfOk r (λ x. text x ≡ fault_line number fault.TooLong) → IfOk r (λ x. count x ≡ 1)
    → IfOk r (λ x. (line : List ℕ) → is_blank line ≡ false → max_line < length line → IsLineReply default number line (text x) (count x))
long_refused default number text count (Ok x) is one =
    λ line some long. rw (is, one) (refused fault.TooLong some (record { applies = long; first = none_before line }))
long_refused default number text count (Err e) is one = tt

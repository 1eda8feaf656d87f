-- The reply to a line, by what its writing says.
use Rattle.std.proofs.Common.{◌≡◌, ◌≢◌, ◌<◌, ◌≤◌, ◌⊎◌, ◌++◌, true, false, length, Option, Result, Ok, Err, IfErr, IfOk, inl, inr, ℕ, List, []}
use Rattle.std.proofs.Common.{refl, arith}
use Rattle.std.specs.Io.KnownBytes.{Appends}
use Rattle.byte_streams.specs.declared.stops.Stop.{Stop}
use Rattle.byte_streams.specs.declared.stops.Stop.TheVariants as stop
use Rattle.byte_streams.specs.Stops.{AppendsPart, is_of_output}
use Rattle.chess_notation.specs.declared.epd_faults.EpdFault.{EpdFault}
use Rattle.chess_notation.specs.declared.epd_faults.EpdFault.TheVariants as fault
use Rattle.chess_notation.specs.EpdFaults.{IsAmissBy, IsFaultOf, fault_number}
use Rattle.chess_notation.specs.Records.{RecordValue, Reads, max_line}
use Rattle.chess_notation.specs.Words.{is_blank}
use Rattle.text_lines.specs.Refusals.{fault_line}
use Rattle.text_lines.specs.Writers.{BreaksOff, Replied}
use Rattle.mate_tree.specs.declared.forms.Form.{Form}
use Rattle.mate_tree.specs.Lines.{line}
use Rattle.mate_tree.specs.TreeReplies.{IsTreeReply, refused}
use Rattle.mate_tree.specs.inside.Replies.{IsRefusal}

-- ---- a reply that is written, whole or in part

pub breaks_read : (P Q : List ℕ → ℕ → Type 0) (old new : Option (List ℕ)) (s : Stop) → ((text : List ℕ) (n : ℕ) → P text n → Q text n)
    → BreaksOff P old new s → BreaksOff Q old new s
breaks_read P Q old new stop.NoMemory read keeps = keeps
breaks_read P Q old new stop.Unreadable read never = absurd never
breaks_read P Q old new stop.Unwritable read (text, n, may, part) = (text, n, read text n may, part)
breaks_read P Q old new stop.NoReader read (text, n, may, part) = (text, n, read text n may, part)

pub refused_breaks : (P Q : List ℕ → ℕ → Type 0) (old new : Option (List ℕ)) (r : Result ℕ Stop) → ((text : List ℕ) (n : ℕ) → P text n → Q text n)
    → IfErr r (BreaksOff P old new) → IfErr r (BreaksOff Q old new)
refused_breaks P Q old new (Ok n) read breaks = tt
refused_breaks P Q old new (Err s) read breaks = breaks_read P Q old new s read breaks

pub refused_replied : (Q : List ℕ → ℕ → Type 0) (old new : Option (List ℕ)) (number : ℕ) (f : EpdFault) (r : Result ℕ Stop)
    → ((text : List ℕ) (n : ℕ) → IsRefusal number f text n → Q text n)
    → IfOk r (λ n. (f ≢ fault.NoMemory) × (n ≡ 1) × Appends old new (fault_line number f ++ line [])) → IfOk r (Replied Q old new)
refused_replied Q old new number f (Ok n) read (other, one, on) =
    (fault_line number f ++ line [], read (fault_line number f ++ line []) n (other, refl, one), on)
refused_replied Q old new number f (Err s) read written = tt

pub refusal_breaks : (old new : Option (List ℕ)) (number : ℕ) (f : EpdFault) (s : Stop) (text : List ℕ) → f ≢ fault.NoMemory
    → text ≡ fault_line number f ++ line [] → is_of_output s ≡ true → AppendsPart old new text → BreaksOff (IsRefusal number f) old new s
refusal_breaks old new number f stop.NoMemory text other is broken part = cc
refusal_breaks old new number f stop.Unreadable text other is broken part = cc
refusal_breaks old new number f stop.Unwritable text other is broken part = (text, 1, (other, is, refl), part)
refusal_breaks old new number f stop.NoReader text other is broken part = (text, 1, (other, is, refl), part)

pub few_refused : (A B : Type 0) (r : Result ℕ Stop) → IfOk r (λ n. A × (n ≡ 1) × B) → IfOk r (λ n. n ≤ 1)
few_refused A B (Ok n) (_, one, _) = omega (arith, one)
few_refused A B (Err s) written = tt

-- ---- a line that is refused

-- A line with this fault, which is not want of memory, is refused by it.
pub reply_refused : (form : Form) (default number : ℕ) (said : List ℕ) (f : EpdFault) → is_blank said ≡ false
    → IsFaultOf said f ⊎ ((f ≡ fault.NoMemory) × ((r : RecordValue) × Reads said default r × (r.rest ≢ [])))
    → (text : List ℕ) (n : ℕ) → IsRefusal number f text n → IsTreeReply form default number said text n
reply_refused form default number said f some (inl first) text n (other, is, one) = rw (is, one) (refused f some first)
reply_refused form default number said f some (inr memory) text n (other, is, one) = absurd (other memory.0)

none_before : (said : List ℕ) (earlier : EpdFault) → fault_number earlier < 1 → ¬ (IsAmissBy said earlier)
none_before said fault.TooLong less = absurd (omega (arith, less))
none_before said fault.NotPrintable less = absurd (omega (arith, less))
none_before said (fault.Fen f) less = absurd (omega (arith, less))
none_before said fault.BadOpcode less = absurd (omega (arith, less))
none_before said fault.BadString less = absurd (omega (arith, less))
none_before said fault.MissingSemicolon less = absurd (omega (arith, less))
none_before said fault.DoubleOpcode less = absurd (omega (arith, less))
none_before said fault.BadBound less = absurd (omega (arith, less))
none_before said fault.BoundTooLarge less = absurd (omega (arith, less))
none_before said fault.BadAvoid less = absurd (omega (arith, less))
none_before said fault.NoMemory less = absurd (omega (arith, less))

-- One that is too long is refused by that, whatever else is amiss.
pub long_refused : (form : Form) (default number : ℕ) (text : List ℕ) (n : ℕ) → IsRefusal number fault.TooLong text n
    → (said : List ℕ) → is_blank said ≡ false → max_line < length said → IsTreeReply form default number said text n
long_refused form default number text n (other, is, one) said some long =
    rw (is, one) (refused fault.TooLong some (record { applies = long; first = none_before said }))

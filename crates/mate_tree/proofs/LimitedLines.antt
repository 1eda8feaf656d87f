-- The reply to a line where the search for a mate may take so long: that to one which is refused.
use Rattle.std.proofs.Common.{◌≡◌, ◌≢◌, ◌<◌, ◌-◌, ◌⊎◌, ◌++◌, ℕ, List, [], false, length, Result, Ok, Err, IfOk}
use Rattle.chess_notation.specs.declared.epd_faults.EpdFault.{EpdFault}
use Rattle.chess_notation.specs.declared.epd_faults.EpdFault.TheVariants as fault
use Rattle.chess_notation.specs.EpdFaults.{IsFaultOf}
use Rattle.chess_notation.specs.Records.{RecordValue, Reads, max_line}
use Rattle.chess_notation.specs.Words.{is_blank}
use Rattle.text_lines.specs.Refusals.{fault_line}
use Rattle.mate_answers.proofs.Limits.{none_more}
use Rattle.mate_tree.specs.declared.forms.Form.{Form}
use Rattle.mate_tree.specs.Lines.{line}
use Rattle.mate_tree.specs.LimitedTrees.{IsLateTree, IsLimitedTree, in_time, told}
use Rattle.mate_tree.proofs.RefusedLines.{long_refused, reply_refused}

module _ (stops : Type 0) (seconds : ℕ) (form : Form) (default number : ℕ) where
  pub fault_told : {X E : Type 0} (said : List ℕ) (f : EpdFault) (text : X → List ℕ) (count : X → ℕ) (r : Result X E) → is_blank said ≡ false
      → IsFaultOf said f ⊎ ((f ≡ fault.NoMemory) × ((r : RecordValue) × Reads said default r × (r.rest ≢ [])))
      → IfOk r (λ x. f ≢ fault.NoMemory) → IfOk r (λ x. text x ≡ fault_line number f ++ line []) → IfOk r (λ x. count x ≡ 1)
      → IfOk r (λ x. IsLimitedTree stops seconds form default number said (text x) (count x))
  fault_told said f text count (Ok x) some why other is one =
      told (text x) (count x) (reply_refused form default number said f some why (text x) (count x) (other, is, one))
  fault_told said f text count (Err e) some why other is one = tt

  pub fault_in_time : {X E : Type 0} (said : List ℕ) (f : EpdFault) (text : X → List ℕ) (count : X → ℕ) (before : ℕ) (r : Result X E)
      → is_blank said ≡ false
      → IsFaultOf said f ⊎ ((f ≡ fault.NoMemory) × ((r : RecordValue) × Reads said default r × (r.rest ≢ [])))
      → IfOk r (λ x. f ≢ fault.NoMemory) → IfOk r (λ x. text x ≡ fault_line number f ++ line []) → IfOk r (λ x. count x ≡ 1)
      → IfOk r (λ x. IsLateTree stops seconds form default number said (text x) (before - before))
  fault_in_time said f text count before (Ok x) some why other is one =
      none_more (IsLateTree stops seconds form default number said (text x)) before
      (in_time (text x) (count x) (reply_refused form default number said f some why (text x) (count x) (other, is, one)))
  fault_in_time said f text count before (Err e) some why other is one = tt

  pub long_told : {X E : Type 0} (text : X → List ℕ) (count : X → ℕ) (r : Result X E) → IfOk r (λ x. fault.TooLong ≢ fault.NoMemory)
      → IfOk r (λ x. text x ≡ fault_line number fault.TooLong ++ line []) → IfOk r (λ x. count x ≡ 1)
      → IfOk r (λ x. (said : List ℕ) → is_blank said ≡ false → max_line < length said
      → IsLimitedTree stops seconds form default number said (text x) (count x))
  long_told text count (Ok x) other is one = λ said some long.
      told (text x) (count x) (long_refused form default number (text x) (count x) (other, is, one) said some long)
  long_told text count (Err e) other is one = tt

  pub long_in_time : {X E : Type 0} (text : X → List ℕ) (count : X → ℕ) (r : Result X E) → IfOk r (λ x. fault.TooLong ≢ fault.NoMemory)
      → IfOk r (λ x. text x ≡ fault_line number fault.TooLong ++ line []) → IfOk r (λ x. count x ≡ 1)
      → IfOk r (λ x. (said : List ℕ) → is_blank said ≡ false → max_line < length said
      → IsLateTree stops seconds form default number said (text x) 0)
  long_in_time text count (Ok x) other is one = λ said some long.
      in_time (text x) (count x) (long_refused form default number (text x) (count x) (other, is, one) said some long)
  long_in_time text count (Err e) other is one = tt

-- The reply to a line that says a record which is solved.
use Rattle.std.proofs.Common.{◌≡◌, ◌≢◌, ◌⊎◌, ◌∙◌, ℕ, List, [], ap, inl, inr, refl, subst, sym, true, false}
use Rattle.std.proofs.Math.Logic.{∥∥₁_elim}
use Rattle.std.specs.Coded.{Coded-set, coded_list, coded_ℕ, ×_prop}
use Rattle.chess_notation.specs.declared.epd_faults.EpdFault.{EpdFault}
use Rattle.chess_notation.specs.declared.epd_faults.EpdFault.TheVariants.{NoMemory}
use Rattle.chess_notation.specs.EpdFaults.{HasNoFault, IsFaultOf}
use Rattle.chess_notation.specs.RecordLaws.{RecordsClear, SaysOne}
use Rattle.chess_notation.specs.Records.{RecordValue, Reads}
use Rattle.chess_notation.specs.Words.{is_blank}
use Rattle.text_lines.specs.Refusals.{fault_line}
use Rattle.mate_answers.specs.InputReplies.{IsLineReply, answer_line, answered, refused, skipped}
use Rattle.record_tasks.specs.SolveTasks.{SaysRecord}

-- The reply to a line is its answer, if it says a record.
reply_answers : RecordsClear → SaysOne → (default number : ℕ) (line text : List ℕ) (n : ℕ) → is_blank line ≡ false
    → (r : RecordValue) → Reads line default r → IsLineReply default number line text n → (text ≡ answer_line r) × (n ≡ 0)
unfolding HasNoFault
reply_answers clear one default number line text n filled r reads (skipped blank) = let no : false ≡ true = sym filled ∙ blank in cc
reply_answers clear one default number line text n filled r reads (refused fault other is) = absurd (clear line default r reads fault is.applies)
reply_answers clear one default number line text n filled r reads (answered s other says) = (ap answer_line (one line default s r says reads), refl)

-- So somebody's answer to a line that says a record is the reply to it.
pub solved_joins : RecordsClear → SaysOne → (default number : ℕ) (line text : List ℕ) (n : ℕ) → is_blank line ≡ false → SaysRecord default line
    → ∥ IsLineReply default number line text n ∥₁ → IsLineReply default number line text n
solved_joins clear one default number line text n filled (r, reads) merely =
    let both : (text ≡ answer_line r) × (n ≡ 0) = ∥∥₁_elim merely (×_prop (Coded-set (coded_list coded_ℕ) _ _) (Coded-set coded_ℕ _ _))
    (reply_answers clear one default number line text n filled r reads) in
    rw (both.0, both.1) (answered r filled reads)

-- The refusal of a line that says no record is the reply to it.
pub solved_refused : (default number : ℕ) (line own text : List ℕ) (fault : EpdFault) (m n : ℕ) → is_blank line ≡ false
    → IsFaultOf line fault ⊎ ((fault ≡ NoMemory) × ((r : RecordValue) × Reads line default r × (r.rest ≢ [])))
    → fault ≢ NoMemory → own ≡ fault_line number fault → m ≡ 1 → text ≡ own → n ≡ m → IsLineReply default number line text n
solved_refused default number line own text fault m n filled (inl faulty) other told one same few =
    rw (same, told, few, one) (refused fault filled faulty)
solved_refused default number line own text fault m n filled (inr (none, more)) other told one same few = absurd (other none)

pub same_answers : (default bound : ℕ) → default ≡ bound → (number : ℕ) (line text : List ℕ) (n : ℕ) → IsLineReply bound number line text n
    → IsLineReply default number line text n
same_answers default bound is number line text n reply = subst (λ d. IsLineReply d number line text n) (sym is) reply

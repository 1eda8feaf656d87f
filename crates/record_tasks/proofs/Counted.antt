-- What is counted of lines that are held against their claims.
use Rattle.std.proofs.Common.{◌≡◌, ◌<◌, ◌++◌, ◌∙◌, ℕ, List, [], ◌∷◌, Option, Some, None, decimal, length, refl, subst, sym, true, false}
use Rattle.std.proofs.Math.Bool.{Bool-set}
use Rattle.std.proofs.Math.Logic.{∥∥₁_elim, ∥∥₁_map}
use Rattle.chess_notation.specs.EpdFaults.{HasNoFault}
use Rattle.chess_notation.specs.RecordLaws.{RecordsClear}
use Rattle.chess_notation.specs.Records.{max_line}
use Rattle.chess_notation.specs.Words.{is_blank}
use Rattle.chess_notation.specs.declared.epd_faults.EpdFault.TheVariants as fault
use Rattle.mate_claims.specs.ClaimReplies.{IsClaimReply, IsTold, no_record, of_record, skipped, told}
use Rattle.mate_claims.specs.Counts.{with_one}
use Rattle.mate_claims.specs.declared.counts.Counts.{Counts}
use Rattle.record_tasks.specs.ClaimTasks.{AreAllCounted, IsCountedAs, counted}
use Rattle.record_tasks.specs.declared.claim_tasks.LineVerdict.{LineVerdict}

pub one_counted : (default : ℕ) (before : List (List ℕ)) (line : List ℕ) (mark : LineVerdict) (old new : Counts)
    → new ≡ with_one mark.verdict mark.source old → ∥ IsCountedAs default line (Some mark) ∥₁
    → AreAllCounted default before old → AreAllCounted default (before ++ line ∷ []) new
one_counted default before line mark old new is marked known =
    let filled : is_blank line ≡ false = ∥∥₁_elim marked (Bool-set _ _) (λ m. m.0) in
    subst (AreAllCounted default (before ++ line ∷ [])) (sym is)
    (counted before line old mark.verdict mark.source filled (∥∥₁_map marked (λ m. m.1)) known)

-- A line is counted as what is told of it.
pub told_mark : (place : List ℕ) (default bound : ℕ) (line row : List ℕ) (mark : LineVerdict) (all : Option LineVerdict)
    → bound ≡ default → all ≡ Some mark → is_blank line ≡ false → IsTold place bound line row mark.verdict mark.source
    → IsCountedAs default line all
told_mark place default bound line row mark all same is filled tells =
    rw is (filled, (place, row, subst (λ d. IsTold place d line row mark.verdict mark.source) same tells, refl))

-- One that is too long is counted as refused.
pub long_mark : RecordsClear → (prefix : List ℕ) (default number : ℕ) (line text : List ℕ) (n : ℕ) (mark : LineVerdict)
    → is_blank line ≡ false → max_line < length line → mark.verdict ≡ None → mark.source ≡ None
    → IsClaimReply prefix default number line text n → IsCountedAs default line (Some mark)
unfolding HasNoFault
long_mark clear prefix default number line text n mark filled long verdict source (skipped blank) =
    let no : false ≡ true = sym filled ∙ blank in cc
long_mark clear prefix default number line text n mark filled long verdict source (told row other from some (no_record fault faulty)) =
    rw (verdict, source) (filled, (prefix ++ decimal number, row, no_record fault faulty, refl))
long_mark clear prefix default number line text n mark filled long verdict unsaid (told row other from some (of_record r source own called reads is by)) =
    absurd (clear line _ r reads fault.TooLong long)

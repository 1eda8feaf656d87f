-- The reply to a line that says a record which is held against its claims.
use Rattle.std.proofs.Common.{◌≡◌, ◌++◌, ◌∙◌, ℕ, List, Option, Some, ap, decimal, refl, subst, sym, true, false}
use Rattle.std.proofs.Math.Logic.{∥∥₁_elim}
use Rattle.std.specs.Coded.{Coded-set, coded_list, coded_ℕ, ×_prop}
use Rattle.chess_notation.specs.EpdFaults.{HasNoFault}
use Rattle.chess_notation.specs.RecordLaws.{RecordsClear, SaysOne}
use Rattle.chess_notation.specs.Records.{RecordValue, problem_of}
use Rattle.chess_notation.specs.Words.{is_blank}
use Rattle.mate_search.specs.inside.Truth.{truth}
use Rattle.mate_claims.specs.declared.bound_sources.BoundSource.{BoundSource}
use Rattle.mate_claims.specs.declared.bound_sources.BoundSource.TheVariants.{Default, Line}
use Rattle.mate_claims.specs.declared.claim_verdicts.ClaimVerdict.{ClaimVerdict}
use Rattle.mate_claims.specs.BoundSources.{IsSource, ReadsClaimed, SaysClaimed}
use Rattle.mate_claims.specs.ClaimReplies.{IsClaimReply, IsTold, IsToldBy, no_record, of_record, refusals_of, skipped, told}
use Rattle.mate_claims.specs.Rows.{row_of}
use Rattle.mate_claims.specs.Said.{Said, said_of}

-- where its bound comes from is one of the two
one_source : (line : List ℕ) (r : RecordValue) (a b : BoundSource) → IsSource line r a → IsSource line r b → a ≡ b
one_source line r Line Line is also = refl
one_source line r Default Default is also = refl
one_source line r Line Default is also = absurd (also is)
one_source line r Default Line is also = absurd (is also)

abbrev said : BoundSource → List ℕ → RecordValue → Said
said source line r = said_of source line r (truth (problem_of r))

abbrev row : List ℕ → List ℕ → RecordValue → BoundSource → List ℕ
row place line r source = row_of place r source (said source line r).word (Some (truth (problem_of r))) (said source line r).claims

abbrev IsRowOf : (prefix : List ℕ) → (number : ℕ) → (line : List ℕ) → RecordValue → BoundSource → List ℕ → ℕ → Type 0
IsRowOf prefix number line r source text n =
    (text ≡ row (prefix ++ decimal number) line r source) × (n ≡ refusals_of (said source line r).verdict)

-- What is told of a line that says a record.
told_row : RecordsClear → SaysOne → (place : List ℕ) (default : ℕ) (line text : List ℕ) (verdict : Option ClaimVerdict) (from : Option BoundSource)
    (r : RecordValue) (source : BoundSource) → ReadsClaimed line default r → IsSource line r source → IsTold place default line text verdict from
    → IsToldBy place r source (said source line r) text verdict
unfolding HasNoFault
told_row clear one place default line text verdict from r source reads is (no_record fault faulty) = absurd (clear line _ r reads fault faulty.applies)
told_row clear one place default line text verdict from r source reads is (of_record s other t v says of by) =
    let same : s ≡ r = one line _ s r says reads in
    let sources : other ≡ source = one_source line r other source (subst (λ x. IsSource line x other) same of) is in
    subst (λ o. IsToldBy place r o (said o line r) t v) sources (subst (λ x. IsToldBy place x other (said other line x) t v) same by)

row_is : RecordsClear → SaysOne → (prefix : List ℕ) (default number : ℕ) (line text : List ℕ) (n : ℕ) → is_blank line ≡ false
    → (r : RecordValue) (source : BoundSource) → ReadsClaimed line default r → IsSource line r source
    → IsClaimReply prefix default number line text n → IsRowOf prefix number line r source text n
row_is clear one prefix default number line text n filled r source reads is (skipped blank) = let no : false ≡ true = sym filled ∙ blank in cc
row_is clear one prefix default number line text n filled r source reads is (told t verdict from other tells) =
    let by = told_row clear one (prefix ++ decimal number) default line t verdict from r source reads is tells in (by.0, ap refusals_of by.1)

-- Somebody's answer to a line that says a record is the reply to it.
pub claimed_joins : RecordsClear → SaysOne → (prefix : List ℕ) (default number : ℕ) (line text : List ℕ) (n : ℕ) → is_blank line ≡ false
    → SaysClaimed line default → ∥ IsClaimReply prefix default number line text n ∥₁ → IsClaimReply prefix default number line text n
claimed_joins clear one prefix default number line text n filled (r, source, reads, is) merely =
    let both : IsRowOf prefix number line r source text n = ∥∥₁_elim merely (×_prop (Coded-set (coded_list coded_ℕ) _ _) (Coded-set coded_ℕ _ _))
    (row_is clear one prefix default number line text n filled r source reads is) in
    rw (both.1) (told text (said source line r).verdict (Some source) filled
    (of_record r source text (said source line r).verdict reads is (both.0, refl)))

-- What is told of a line is its reply.
pub reply_told : (prefix before : List ℕ) (default bound number : ℕ) (line row text : List ℕ) (verdict : Option ClaimVerdict)
    (source : Option BoundSource) (n : ℕ) → before ≡ prefix → bound ≡ default → text ≡ row → n ≡ refusals_of verdict → is_blank line ≡ false
    → IsTold (before ++ decimal number) bound line row verdict source → IsClaimReply prefix default number line text n
reply_told prefix before default bound number line row text verdict source n same is same_text count filled tells =
    let at = subst (λ p. IsTold (p ++ decimal number) bound line row verdict source) same tells in
    let by = subst (λ d. IsTold (prefix ++ decimal number) d line row verdict source) is at in
    rw (same_text, count) (told row verdict source filled by)

-- Rows with the same part of their places and the same bound are the same.
pub same_rows : (prefix before : List ℕ) (default bound : ℕ) → default ≡ bound → prefix ≡ before → (number : ℕ) (line text : List ℕ) (n : ℕ)
    → IsClaimReply before bound number line text n → IsClaimReply prefix default number line text n
same_rows prefix before default bound is same number line text n reply =
    subst (λ p. IsClaimReply p default number line text n) (sym same) (subst (λ d. IsClaimReply before d number line text n) (sym is) reply)

-- What is told of a line: by a fault of its record, or by what comes of its claims.
use Rattle.std.proofs.Common.{◌≡◌, ◌≢◌, ◌⊎◌, ◌<◌, ◌++◌, ◌∙◌, ℕ, List, [], Option, None, Some, Result, Ok, Err}
use Rattle.std.proofs.Common.{IfOk, ap, inl, inr, refl, subst, arith, length, decimal, false}
use Rattle.chess_notation.specs.declared.epd_faults.EpdFault.{EpdFault}
use Rattle.chess_notation.specs.declared.epd_faults.EpdFault.TheVariants as fault
use Rattle.chess_notation.specs.Words.{is_blank, words_in}
use Rattle.chess_notation.specs.Claims.{claim_words, claims_text}
use Rattle.chess_notation.specs.Records.{RecordValue, problem_of, Reads, max_line}
use Rattle.chess_notation.specs.EpdFaults.{IsAmissBy, IsFaultOf, epd_fault_name, fault_number}
use Rattle.chess_problems.specs.declared.outcomes.Outcome.{Outcome}
use Rattle.mate_search.specs.inside.Truth.{truth}
use Rattle.mate_claims.specs.declared.bound_sources.BoundSource.{BoundSource}
use Rattle.mate_claims.specs.declared.claim_verdicts.ClaimVerdict.{ClaimVerdict}
use Rattle.mate_claims.specs.Rows.{refused_row, row_of}
use Rattle.mate_claims.specs.Said.{Said, said_by, said_of}
use Rattle.mate_claims.specs.BoundSources.{IsSource, ReadsClaimed}
use Rattle.mate_claims.specs.ClaimReplies.{IsClaimReply, IsTold, IsToldBy, refusals_of, no_record, of_record, told}

-- A line with this fault, which is not want of memory, says no record.
pub fault_told : {X E : Type 0} (place : List ℕ) (default bound : ℕ) (line : List ℕ) (kind : EpdFault) (row : X → List ℕ)
    (verdict : X → Option ClaimVerdict) (source : X → Option BoundSource) (r : Result X E)
    → IsFaultOf line kind ⊎ ((kind ≡ fault.NoMemory) × ((r : RecordValue) × Reads line bound r × (r.rest ≢ [])))
    → IfOk r (λ x. kind ≢ fault.NoMemory) → IfOk r (λ x. row x ≡ refused_row place (epd_fault_name kind)) → IfOk r (λ x. verdict x ≡ None)
    → IfOk r (λ x. source x ≡ None) → IfOk r (λ x. IsTold place default line (row x) (verdict x) (source x))
fault_told place default bound line kind row verdict source (Ok x) (inl first) other is none nowhere = rw (is, none, nowhere) (no_record kind first)
fault_told place default bound line kind row verdict source (Ok x) (inr memory) other is none nowhere = absurd (other memory.0)
fault_told place default bound line kind row verdict source (Err e) why other is none nowhere = tt

-- What is told of a record of whose claims this comes, by what was found.
pub told_by_said : {X E : Type 0} (place : List ℕ) (r : RecordValue) (source : BoundSource) (word claims : List ℕ) (v : Option ClaimVerdict)
    (found outcome : Outcome) (shown : Outcome → Option Outcome) (said : Outcome → Said) (row : X → List ℕ) (verdict : X → Option ClaimVerdict)
    (result : Result X E) → found ≡ outcome
    → record { word = word; claims = claims; verdict = v } ≡ said found
    → IfOk result (λ x. row x ≡ row_of place r source word (shown found) claims) → IfOk result (λ x. verdict x ≡ v)
    → IfOk result (λ x. (row x ≡ row_of place r source (said outcome).word (shown outcome) (said outcome).claims)
    × (verdict x ≡ (said outcome).verdict))
told_by_said place r source word claims v found outcome shown said row verdict (Ok x) same is at of =
    subst (λ o. (row x ≡ row_of place r source (said o).word (shown o) (said o).claims) × (verdict x ≡ (said o).verdict)) same
    (at ∙ ap (λ (s : Said). row_of place r source s.word (shown found) s.claims) is, of ∙ ap (λ (s : Said). s.verdict) is)
told_by_said place r source word claims v found outcome shown said row verdict (Err e) same is at of = tt

-- What is told of a record that a line says.
pub told_record : (place : List ℕ) (default : ℕ) (line : List ℕ) (r : RecordValue) (source : BoundSource) (words row : List ℕ)
    (verdict : Option ClaimVerdict) → ReadsClaimed line default r → IsSource line r source → words ≡ claims_text line
    → IsToldBy place r source (said_by source line words (words_in words) r (truth (problem_of r))) row verdict
    → IsTold place default line row verdict (Some source)
unfolding said_of claim_words
told_record place default line r source words row verdict reads from same is =
    of_record r source row verdict reads from
    (subst (λ t. IsToldBy place r source (said_by source line t (words_in t) r (truth (problem_of r))) row verdict) same is)

pub told_of_one : {X E : Type 0} (place : List ℕ) (default : ℕ) (line : List ℕ) (r : RecordValue) (source : BoundSource) (words : List ℕ)
    (row : X → List ℕ) (verdict : X → Option ClaimVerdict) (from : X → Option BoundSource) (result : Result X E) → ReadsClaimed line default r
    → IsSource line r source → words ≡ claims_text line
    → IfOk result (λ x. IsToldBy place r source (said_by source line words (words_in words) r (truth (problem_of r))) (row x) (verdict x))
    → IfOk result (λ x. from x ≡ Some source) → IfOk result (λ x. IsTold place default line (row x) (verdict x) (from x))
told_of_one place default line r source words row verdict from (Ok x) reads comes same is known =
    rw known (told_record place default line r source words (row x) (verdict x) reads comes same is)
told_of_one place default line r source words row verdict from (Err e) reads comes same is known = tt

-- What is told of a line is its reply.
pub told_reply : (prefix place : List ℕ) (default number : ℕ) (line row : List ℕ) (verdict : Option ClaimVerdict) (source : Option BoundSource)
    (refusals : ℕ) → is_blank line ≡ false → place ≡ prefix ++ decimal number
    → IsTold place default line row verdict source → refusals ≡ refusals_of verdict → IsClaimReply prefix default number line row refusals
told_reply prefix place default number line row verdict source refusals filled at is count =
    rw count (told row verdict source filled (subst (λ p. IsTold p default line row verdict source) at is))

pub none_before : (line : List ℕ) (earlier : EpdFault) → fault_number earlier < 1 → ¬ (IsAmissBy line earlier)
none_before line fault.TooLong less = absurd (omega (arith, less))
none_before line fault.NotPrintable less = absurd (omega (arith, less))
none_before line (fault.Fen f) less = absurd (omega (arith, less))
none_before line fault.BadOpcode less = absurd (omega (arith, less))
none_before line fault.BadString less = absurd (omega (arith, less))
none_before line fault.MissingSemicolon less = absurd (omega (arith, less))
none_before line fault.DoubleOpcode less = absurd (omega (arith, less))
none_before line fault.BadBound less = absurd (omega (arith, less))
none_before line fault.BoundTooLarge less = absurd (omega (arith, less))
none_before line fault.BadAvoid less = absurd (omega (arith, less))
none_before line fault.NoMemory less = absurd (omega (arith, less))

-- A line that is too long is refused by that, whatever else is amiss.
pub long_reply : (prefix place : List ℕ) (default number : ℕ) (line row : List ℕ) → is_blank line ≡ false
    → max_line < length line → place ≡ prefix ++ decimal number
    → row ≡ refused_row place (epd_fault_name fault.TooLong) → IsClaimReply prefix default number line row 1
long_reply prefix place default number line row filled long at is =
    told_reply prefix place default number line row None None 1 filled at
    (rw is (no_record fault.TooLong (record { applies = long; first = none_before line }))) refl

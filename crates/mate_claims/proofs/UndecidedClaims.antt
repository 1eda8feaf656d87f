-- What is told of a line where each record may take so long.
use Rattle.std.proofs.Common.{◌≡◌, ◌⊎◌, ◌<◌, ◌+◌, ◌-◌, ◌≤◌, ◌++◌, ◌∙◌, ℕ, List, Option, None, Some, Result, Ok, Err}
use Rattle.std.proofs.Common.{IfOk, ap, inl, inr, refl, subst, arith, length, decimal, Bool, true, false}
use Rattle.chess_notation.specs.Words.{is_blank, words_in}
use Rattle.chess_notation.specs.Claims.{claim_words, claims_text}
use Rattle.chess_notation.specs.Records.{RecordValue, problem_of, max_line}
use Rattle.chess_notation.specs.EpdFaults.{epd_fault_name}
use Rattle.chess_notation.specs.declared.epd_faults.EpdFault.TheVariants as fault
use Rattle.chess_problems.specs.declared.outcomes.Outcome.TheVariants.{NoMate}
use Rattle.mate_search.specs.inside.Truth.{truth}
use Rattle.mate_answers.specs.LimitedReplies.{IsNoneSoFar}
use Rattle.mate_claims.specs.declared.bound_sources.BoundSource.{BoundSource}
use Rattle.mate_claims.specs.declared.bound_sources.BoundSource.TheVariants as source
use Rattle.mate_claims.specs.declared.counts.Counts.{Counts}
use Rattle.mate_claims.specs.declared.claim_verdicts.ClaimVerdict.{ClaimVerdict}
use Rattle.mate_claims.specs.declared.claim_verdicts.ClaimVerdict.TheVariants as verdict
use Rattle.mate_claims.specs.BoundSources.{IsSource, ReadsClaimed}
use Rattle.mate_claims.specs.ClaimReplies.{IsClaimReply, IsTold, IsToldBy, no_record, refusals_of}
use Rattle.mate_claims.specs.Counts.{count_of, with_count, with_decided, with_line, with_one, with_source}
use Rattle.mate_claims.specs.LimitedClaims.{IsLateClaim, IsLimitedClaim, IsToldInTime, IsToldLate}
use Rattle.mate_claims.specs.LimitedClaims.{in_time, late, marked, told, undecided_of, unjudged}
use Rattle.mate_claims.specs.Rows.{refused_row}
use Rattle.mate_claims.specs.Said.{Said, said_by, said_of}
use Rattle.mate_claims.specs.ClaimVerdicts.{verdict_name}
use Rattle.mate_claims.proofs.ClaimReplies.{none_before, told_record, told_reply}

-- ---- what comes of claims without an outcome

abbrev said_as : List ℕ → List ℕ → Option ClaimVerdict → Said
said_as word claims v = record { word = word; claims = claims; verdict = v }

pub unjudged_some : (word claims new : List ℕ) (v : Option ClaimVerdict) (x : ClaimVerdict) (said : Said)
    → record { word = word; claims = claims; verdict = v } ≡ said → v ≡ Some x
    → new ≡ verdict_name verdict.Undecided → record { word = new; claims = claims; verdict = Some verdict.Undecided } ≡ unjudged said
unjudged_some word claims new None x said is some named = cc
unjudged_some word claims new (Some y) x said is some named =
    ap (λ n. said_as n claims (Some verdict.Undecided)) named ∙ ap unjudged is

pub unjudged_none : (word claims : List ℕ) (v : Option ClaimVerdict) (said : Said)
    → record { word = word; claims = claims; verdict = v } ≡ said → v ≡ None → record { word = word; claims = claims; verdict = v } ≡ unjudged said
unjudged_none word claims (Some x) said is none = cc
unjudged_none word claims None said is none = ap unjudged is

-- ---- what is told

pub ok_both : {X E : Type 0} (result : Result X E) (P Q R : X → Type 0) → ((x : X) → P x → Q x → R x) → IfOk result P → IfOk result Q
    → IfOk result R
ok_both (Ok x) P Q R more p q = more x p q
ok_both (Err e) P Q R more p q = tt

-- What is told of a record that a line says, decided or not.
told_either : (stops : Type 0) (place : List ℕ) (default : ℕ) (line : List ℕ) (r : RecordValue) (from : BoundSource) (words row : List ℕ)
    (v : Option ClaimVerdict) (decided : Bool)
    → ReadsClaimed line default r → IsSource line r from → words ≡ claims_text line
    → ((decided ≡ true) × IsToldBy place r from (said_by from line words (words_in words) r (truth (problem_of r))) row v)
    ⊎ ((decided ≡ false) × stops × (none : ℕ) × IsNoneSoFar r none
    × IsToldLate place r from (unjudged (said_by from line words (words_in words) r NoMate)) row v)
    → IsToldInTime stops place default line row v (Some from) decided
unfolding said_of claim_words
told_either stops place default line r from words row v decided reads comes same (inl (whole, is)) =
    rw whole (in_time row v (Some from) (told_record place default line r from words row v reads comes same is))
told_either stops place default line r from words row v decided reads comes same (inr (part, may, none, so_far, is)) =
    rw part (late may r from none row v reads comes so_far
    (subst (λ t. IsToldLate place r from (unjudged (said_by from line t (words_in t) r NoMate)) row v) same is))

pub told_of_either : {X E : Type 0} (stops : Type 0) (place : List ℕ) (default : ℕ) (line : List ℕ) (r : RecordValue) (from : BoundSource)
    (words : List ℕ)
    (row : X → List ℕ) (v : X → Option ClaimVerdict) (source : X → Option BoundSource) (decided : X → Bool) (result : Result X E)
    → ReadsClaimed line default r → IsSource line r from → words ≡ claims_text line
    → IfOk result (λ x. ((decided x ≡ true) × IsToldBy place r from (said_by from line words (words_in words) r (truth (problem_of r))) (row x) (v x))
    ⊎ ((decided x ≡ false) × stops × (none : ℕ) × IsNoneSoFar r none
    × IsToldLate place r from (unjudged (said_by from line words (words_in words) r NoMate)) (row x) (v x)))
    → IfOk result (λ x. source x ≡ Some from) → IfOk result (λ x. IsToldInTime stops place default line (row x) (v x) (source x) (decided x))
told_of_either stops place default line r from words row v source decided (Ok x) reads comes same is known =
    rw known (told_either stops place default line r from words (row x) (v x) (decided x) reads comes same is)
told_of_either stops place default line r from words row v source decided (Err e) reads comes same is known = tt

-- The same as without a limit, unless it may be stopped.
told_unless : (stops : Type 0) (place : List ℕ) (default : ℕ) (line row : List ℕ) (v : Option ClaimVerdict) (from : Option BoundSource)
    (decided : Bool) → IsToldInTime stops place default line row v from decided → stops ⊎ IsTold place default line row v from
told_unless stops place default line _ _ _ _ (in_time row v from is) = inr is
told_unless stops place default line _ _ _ _ (late may r from none row v reads comes so_far is) = inl may

-- ---- how many were not decided

kept_by_source : (from : Option BoundSource) (c : Counts) → (with_source from c).undecided ≡ c.undecided
kept_by_source None c = refl
kept_by_source (Some source.Line) c = refl
kept_by_source (Some source.Default) c = refl

kept_by_verdict : (v : Option ClaimVerdict) (n : ℕ) (c : Counts) → (with_count v n c).undecided ≡ c.undecided
kept_by_verdict None n c = refl
kept_by_verdict (Some verdict.Sound) n c = refl
kept_by_verdict (Some verdict.Several) n c = refl
kept_by_verdict (Some verdict.Unclaimed) n c = refl
kept_by_verdict (Some verdict.Cooked) n c = refl
kept_by_verdict (Some verdict.Wrong) n c = refl
kept_by_verdict (Some verdict.Short) n c = refl
kept_by_verdict (Some verdict.Unsolvable) n c = refl
kept_by_verdict (Some verdict.Unsolved) n c = refl
kept_by_verdict (Some verdict.Undecided) n c = refl

kept_by_one : (v : Option ClaimVerdict) (from : Option BoundSource) (c : Counts) → (with_one v from c).undecided ≡ c.undecided
kept_by_one v from c = kept_by_source from (with_count v (count_of v c + 1) c) ∙ kept_by_verdict v (count_of v c + 1) c

more_by_decided : (decided : Bool) (c : Counts) → (with_decided decided c).undecided ≡ c.undecided + undecided_of decided
more_by_decided true c = omega arith
more_by_decided false c = refl

counted_undecided : (v : Option ClaimVerdict) (from : Option BoundSource) (decided : Bool) (old new : Counts) → new ≡ with_line v from decided old
    → new.undecided ≡ old.undecided + undecided_of decided
counted_undecided v from decided old new is =
    ap (λ (c : Counts). c.undecided) is ∙ more_by_decided decided (with_one v from old)
    ∙ ap (λ n. n + undecided_of decided) (kept_by_one v from old)

pub no_fewer_undecided : (v : Option ClaimVerdict) (from : Option BoundSource) (decided : Bool) (old new : Counts)
    → new ≡ with_line v from decided old → old.undecided ≤ new.undecided
no_fewer_undecided v from decided old new is = omega (arith, counted_undecided v from decided old new is)

-- ---- replies

-- What is told of a line is its reply.
pub limited_reply : (stops : Type 0) (prefix place : List ℕ) (default number : ℕ) (line row : List ℕ) (v : Option ClaimVerdict)
    (from : Option BoundSource) (decided : Bool) (refusals : ℕ) → is_blank line ≡ false → place ≡ prefix ++ decimal number
    → IsToldInTime stops place default line row v from decided → refusals ≡ refusals_of v
    → IsLimitedClaim stops prefix default number line row refusals
limited_reply stops prefix place default number line row v from decided refusals filled at is count =
    rw count (told row v from decided filled (subst (λ p. IsToldInTime stops p default line row v from decided) at is))

unless : (stops : Type 0) (A B : Type 0) → (A → B) → stops ⊎ A → stops ⊎ B
unless stops A B f (inl may) = inl may
unless stops A B f (inr a) = inr (f a)

-- What is told of it without a limit is its reply without one.
pub unstopped_reply : (stops : Type 0) (prefix place : List ℕ) (default number : ℕ) (line row : List ℕ) (v : Option ClaimVerdict)
    (from : Option BoundSource) (decided : Bool) (refusals : ℕ) → is_blank line ≡ false → place ≡ prefix ++ decimal number
    → IsToldInTime stops place default line row v from decided → refusals ≡ refusals_of v
    → stops ⊎ IsClaimReply prefix default number line row refusals
unstopped_reply stops prefix place default number line row v from decided refusals filled at is count =
    unless stops (IsTold place default line row v from) (IsClaimReply prefix default number line row refusals)
    (λ told. told_reply prefix place default number line row v from refusals filled at told count)
    (told_unless stops place default line row v from decided is)

-- So many records more were not decided.
pub late_reply : (stops : Type 0) (prefix place : List ℕ) (default number : ℕ) (line row : List ℕ) (v : Option ClaimVerdict)
    (from : Option BoundSource) (decided : Bool) (old new : Counts) → is_blank line ≡ false → place ≡ prefix ++ decimal number
    → IsToldInTime stops place default line row v from decided
    → new ≡ with_line v from decided old → IsLateClaim stops prefix default number line row (new.undecided - old.undecided)
late_reply stops prefix place default number line row v from decided old new filled at is count =
    let more : undecided_of decided ≡ new.undecided - old.undecided = omega (arith, counted_undecided v from decided old new count) in
    subst (IsLateClaim stops prefix default number line row) more
    (marked row v from decided filled (subst (λ p. IsToldInTime stops p default line row v from decided) at is))

-- A line that is too long is refused by that, whatever else is amiss.
long_told : (stops : Type 0) (place : List ℕ) (default : ℕ) (line row : List ℕ) → max_line < length line
    → row ≡ refused_row place (epd_fault_name fault.TooLong)
    → IsToldInTime stops place default line row None None true
long_told stops place default line row long is =
    in_time row None None (rw is (no_record fault.TooLong (record { applies = long; first = none_before line })))

pub long_limited : (stops : Type 0) (prefix place : List ℕ) (default number : ℕ) (line row : List ℕ) → is_blank line ≡ false
    → max_line < length line → place ≡ prefix ++ decimal number
    → row ≡ refused_row place (epd_fault_name fault.TooLong) → IsLimitedClaim stops prefix default number line row 1
long_limited stops prefix place default number line row filled long at is =
    limited_reply stops prefix place default number line row None None true 1 filled at (long_told stops place default line row long is) refl

pub long_unmarked : (stops : Type 0) (prefix place : List ℕ) (default number : ℕ) (line row : List ℕ) → is_blank line ≡ false
    → max_line < length line → place ≡ prefix ++ decimal number
    → row ≡ refused_row place (epd_fault_name fault.TooLong) → IsLateClaim stops prefix default number line row 0
long_unmarked stops prefix place default number line row filled long at is =
    marked row None None true filled (subst (λ p. IsToldInTime stops p default line row None None true) at (long_told stops place default line row long is))

-- What is told of a line that is held against its own claims, where each record may take so long (own to this project).
use Rattle.std.specs.Prelude.{◌≡◌, ℕ, List, [], ◌++◌, Bool, true, false, Option, Some, None, decimal, if◌then◌else◌}
use Rattle.chess_notation.specs.Words.{is_blank}
use Rattle.chess_notation.specs.Records.{RecordValue}
use Rattle.chess_problems.specs.declared.outcomes.Outcome.TheVariants.{NoMate}
use Rattle.mate_answers.specs.LimitedReplies.{IsNoneSoFar}
use Rattle.mate_claims.specs.declared.bound_sources.BoundSource.{BoundSource}
use Rattle.mate_claims.specs.declared.claim_verdicts.ClaimVerdict.{ClaimVerdict}
use Rattle.mate_claims.specs.declared.claim_verdicts.ClaimVerdict.TheVariants.{Undecided}
use Rattle.mate_claims.specs.BoundSources.{IsSource, ReadsClaimed}
use Rattle.mate_claims.specs.ClaimReplies.{IsTold, refusals_of}
use Rattle.mate_claims.specs.Rows.{row_of}
use Rattle.mate_claims.specs.Said.{Said, said_of}
use Rattle.mate_claims.specs.ClaimVerdicts.{verdict_name}

-- What comes of claims where there is no outcome to hold them against: in place of any verdict that the record was not decided. What is
-- amiss with them stays.
abbrev pub unjudged_by : Option ClaimVerdict → Said → Said
unjudged_by (Some verdict) said = record { word = verdict_name Undecided; claims = said.claims; verdict = Some Undecided }
unjudged_by None said = said

abbrev pub unjudged : Said → Said
unjudged said = unjudged_by said.verdict said

-- What is told of a record that was not decided, of whose claims this comes: that it isn't known whether there is a mate.
abbrev pub IsToldLate : List ℕ → RecordValue → BoundSource → Said → List ℕ → Option ClaimVerdict → Type 0
IsToldLate place r source said row verdict =
    (row ≡ row_of place r source said.word None said.claims) × (verdict ≡ said.verdict)

-- What is told of a line that isn't blank, and whether it was decided: as without a limit; or, where the limit may stop a search at all, of a
-- record of which no more was known in time than that there is no mate within so many moves of fewer than it asks for. Whichever outcome its
-- claims are held against, they and what is amiss with them are the same.
pub data IsToldInTime (stops : Type 0) (place : List ℕ) (default : ℕ) (line : List ℕ)
    : List ℕ → Option ClaimVerdict → Option BoundSource → Bool → Type 0 where
  in_time : (row : List ℕ) (verdict : Option ClaimVerdict) (source : Option BoundSource) → IsTold place default line row verdict source
      → IsToldInTime stops place default line row verdict source true
  late : stops → (r : RecordValue) (source : BoundSource) (none : ℕ) (row : List ℕ) (verdict : Option ClaimVerdict) → ReadsClaimed line default r
      → IsSource line r source → IsNoneSoFar r none → IsToldLate place r source (unjudged (said_of source line r NoMate)) row verdict
      → IsToldInTime stops place default line row verdict (Some source) false

-- What one line is answered, its place the name's part and its number, and how many refusals that is: nothing where it is blank.
pub data IsLimitedClaim (stops : Type 0) (prefix : List ℕ) (default number : ℕ) (line : List ℕ) : List ℕ → ℕ → Type 0 where
  skipped : is_blank line ≡ true → IsLimitedClaim stops prefix default number line [] 0
  told : (row : List ℕ) (verdict : Option ClaimVerdict) (source : Option BoundSource) (decided : Bool) → is_blank line ≡ false
      → IsToldInTime stops (prefix ++ decimal number) default line row verdict source decided
      → IsLimitedClaim stops prefix default number line row (refusals_of verdict)

-- one where a record was not decided
abbrev pub undecided_of : Bool → ℕ
undecided_of decided = if decided then 0 else 1

-- What one line is answered, and how many of its rows are of a record that was not decided: one or none.
pub data IsLateClaim (stops : Type 0) (prefix : List ℕ) (default number : ℕ) (line : List ℕ) : List ℕ → ℕ → Type 0 where
  unmarked : is_blank line ≡ true → IsLateClaim stops prefix default number line [] 0
  marked : (row : List ℕ) (verdict : Option ClaimVerdict) (source : Option BoundSource) (decided : Bool) → is_blank line ≡ false
      → IsToldInTime stops (prefix ++ decimal number) default line row verdict source decided
      → IsLateClaim stops prefix default number line row (undecided_of decided)

-- How many of the lines of an input came to which verdict.
use Rattle.std.specs.Prelude.{◌≡◌, ◌⊎◌, ◌<◌, ◌≤◌, ℕ, List, [], ◌∷◌, ◌++◌, Bool, true, false, Option, length}
use Rattle.chess_notation.specs.Records.{max_line}
use Rattle.chess_notation.specs.Words.{is_blank}
use Rattle.mate_claims.specs.declared.bound_sources.BoundSource.{BoundSource}
use Rattle.mate_claims.specs.declared.counts.Counts.{Counts}
use Rattle.mate_claims.specs.declared.claim_verdicts.ClaimVerdict.{ClaimVerdict}
use Rattle.mate_claims.specs.ClaimReplies.{IsTold}
use Rattle.mate_claims.specs.Counts.{no_counts, with_line}
use Rattle.mate_claims.specs.LimitedClaims.{IsToldInTime}

-- What a line may come to: its verdict, if it isn't refused, where the number of moves of a record comes from, and whether it was decided.
abbrev pub LineVerdicts : Type 1
LineVerdicts = List ℕ → Option ClaimVerdict → Option BoundSource → Bool → Type 0

-- what is told of a line in some place
abbrev pub comes_to : ℕ → LineVerdicts
comes_to default line verdict source decided =
    (place : List ℕ) × (row : List ℕ) × IsTold place default line row verdict source × (decided ≡ true)

-- the same, where each record may take so long
abbrev pub comes_in_time_to : Type 0 → ℕ → LineVerdicts
comes_in_time_to stops default line verdict source decided =
    (place : List ℕ) × (row : List ℕ) × IsToldInTime stops place default line row verdict source decided

-- What is counted of lines, each without its CR: each but those that are blank, or longer than a record may be.
pub data AreCounted (comes : LineVerdicts) : List (List ℕ) → Counts → Type 0 where
  none : AreCounted comes [] no_counts
  passed : (lines : List (List ℕ)) (line : List ℕ) (counts : Counts) → (is_blank line ≡ true) ⊎ (max_line < length line)
      → AreCounted comes lines counts → AreCounted comes (lines ++ line ∷ []) counts
  counted : (lines : List (List ℕ)) (line : List ℕ) (counts : Counts) (verdict : Option ClaimVerdict) (source : Option BoundSource)
      (decided : Bool) → is_blank line ≡ false → length line ≤ max_line → comes line verdict source decided
      → AreCounted comes lines counts → AreCounted comes (lines ++ line ∷ []) (with_line verdict source decided counts)

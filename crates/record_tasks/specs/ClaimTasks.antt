-- What workers count of lines that are held against their claims (own to this project).
use Rattle.std.specs.Prelude.{◌≡◌, ℕ, List, [], ◌∷◌, ◌++◌, true, false, Option, Some, None}
use Rattle.chess_notation.specs.Words.{is_blank}
use Rattle.mate_claims.specs.CountedLines.{comes_to}
use Rattle.mate_claims.specs.Counts.{no_counts, with_one}
use Rattle.mate_claims.specs.declared.bound_sources.BoundSource.{BoundSource}
use Rattle.mate_claims.specs.declared.claim_verdicts.ClaimVerdict.{ClaimVerdict}
use Rattle.mate_claims.specs.declared.counts.Counts.{Counts}
use Rattle.record_tasks.specs.declared.claim_tasks.LineVerdict.{LineVerdict}

-- A line that isn't blank is counted as what it comes to.
abbrev pub IsCountedAs : ℕ → List ℕ → Option LineVerdict → Type 0
IsCountedAs default line (Some mark) = (is_blank line ≡ false) × comes_to default line mark.verdict mark.source true
IsCountedAs default line None = is_blank line ≡ true

-- What is counted of lines, each without its CR: each but those that are blank, as what somebody found that it comes to. A line that is longer
-- than a record may be is refused, and counted so.
pub data AreAllCounted (default : ℕ) : List (List ℕ) → Counts → Type 0 where
  none : AreAllCounted default [] no_counts
  passed : (lines : List (List ℕ)) (line : List ℕ) (counts : Counts) → is_blank line ≡ true
      → AreAllCounted default lines counts → AreAllCounted default (lines ++ line ∷ []) counts
  counted : (lines : List (List ℕ)) (line : List ℕ) (counts : Counts) (verdict : Option ClaimVerdict) (source : Option BoundSource)
      → is_blank line ≡ false → ∥ comes_to default line verdict source true ∥₁
      → AreAllCounted default lines counts → AreAllCounted default (lines ++ line ∷ []) (with_one verdict source counts)

-- What is counted once one line more is.
use Rattle.std.proofs.Common.{◌≡◌, ◌≤◌, ◌++◌, ℕ, List, [], ◌∷◌, Bool, Option, false, length, subst, sym}
use Rattle.chess_notation.specs.Records.{max_line}
use Rattle.chess_notation.specs.Words.{is_blank}
use Rattle.mate_claims.specs.declared.bound_sources.BoundSource.{BoundSource}
use Rattle.mate_claims.specs.declared.counts.Counts.{Counts}
use Rattle.mate_claims.specs.declared.claim_verdicts.ClaimVerdict.{ClaimVerdict}
use Rattle.mate_claims.specs.CountedLines.{AreCounted, LineVerdicts, counted}
use Rattle.mate_claims.specs.Counts.{with_line}

pub one_counted : (comes : LineVerdicts) (before : List (List ℕ)) (line : List ℕ) (verdict : Option ClaimVerdict) (source : Option BoundSource)
    (decided : Bool) (old new : Counts) → is_blank line ≡ false → length line ≤ max_line → comes line verdict source decided
    → new ≡ with_line verdict source decided old → AreCounted comes before old → AreCounted comes (before ++ line ∷ []) new
one_counted comes before line verdict source decided old new filled short told is known =
    subst (AreCounted comes (before ++ line ∷ [])) (sym is) (counted before line old verdict source decided filled short told known)

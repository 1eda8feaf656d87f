-- What is told of a line that is held against its own claims.
use Rattle.std.specs.Prelude.{◌≡◌, ℕ, List, [], ◌++◌, true, false, Option, Some, None, decimal}
use Rattle.chess_notation.specs.declared.epd_faults.EpdFault.{EpdFault}
use Rattle.chess_notation.specs.Words.{is_blank}
use Rattle.chess_notation.specs.Records.{RecordValue, problem_of}
use Rattle.chess_notation.specs.EpdFaults.{IsFaultOf, epd_fault_name}
use Rattle.mate_search.specs.inside.Truth.{truth}
use Rattle.mate_claims.specs.declared.bound_sources.BoundSource.{BoundSource}
use Rattle.mate_claims.specs.declared.claim_verdicts.ClaimVerdict.{ClaimVerdict}
use Rattle.mate_claims.specs.declared.claim_verdicts.ClaimVerdict.TheVariants.{Sound, Undecided}
use Rattle.mate_claims.specs.BoundSources.{IsSource, ReadsClaimed}
use Rattle.mate_claims.specs.Rows.{row_of, refused_row}
use Rattle.mate_claims.specs.Said.{Said, said_of}

-- What is told of a record of whose claims this comes: what was found in any case.
abbrev pub IsToldBy : List ℕ → RecordValue → BoundSource → Said → List ℕ → Option ClaimVerdict → Type 0
IsToldBy place r source said row verdict =
    (row ≡ row_of place r source said.word (Some (truth (problem_of r))) said.claims) × (verdict ≡ said.verdict)

-- What is told of a line that isn't blank; its verdict, if it isn't refused; and of a record where its bound comes from.
pub data IsTold (place : List ℕ) (default : ℕ) (line : List ℕ) : List ℕ → Option ClaimVerdict → Option BoundSource → Type 0 where
  no_record : (fault : EpdFault) → IsFaultOf line fault → IsTold place default line (refused_row place (epd_fault_name fault)) None None
  of_record : (r : RecordValue) (source : BoundSource) (row : List ℕ) (verdict : Option ClaimVerdict) → ReadsClaimed line default r
      → IsSource line r source → IsToldBy place r source (said_of source line r (truth (problem_of r))) row verdict
      → IsTold place default line row verdict (Some source)

-- a line that is known not to be sound is refused by its claims
abbrev pub refusals_of : Option ClaimVerdict → ℕ
refusals_of (Some Sound) = 0
refusals_of (Some Undecided) = 0
refusals_of _ = 1

-- What one line is answered, its place the name's part and its number, and how many refusals that is: nothing where it is blank.
pub data IsClaimReply (prefix : List ℕ) (default number : ℕ) (line : List ℕ) : List ℕ → ℕ → Type 0 where
  skipped : is_blank line ≡ true → IsClaimReply prefix default number line [] 0
  told : (row : List ℕ) (verdict : Option ClaimVerdict) (source : Option BoundSource) → is_blank line ≡ false
      → IsTold (prefix ++ decimal number) default line row verdict source → IsClaimReply prefix default number line row (refusals_of verdict)

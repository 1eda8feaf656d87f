-- What a line is read as, with one default bound or two.
use Rattle.std.proofs.Common.{◌≡◌, ◌≢◌, ℕ, List, false, sym, ◌∙◌, ap, subst}
use Rattle.chess_notation.specs.RecordLaws.{SaysOne}
use Rattle.chess_notation.specs.Records.{RecordValue, Reads}
use Rattle.problem_import.specs.inside.Counted.{IsSaid, SaysBound}
use Rattle.problem_import.specs.declared.line_kinds.LineRecord.{LineRecord}
use Rattle.problem_import.specs.inside.LineRecords.{IsFoundIn, IsReadBy}
use Rattle.problem_import.proofs.SaidBounds.{said_by_line, said_by_none}

found_by : SaysOne → (line : List ℕ) (r : RecordValue) (found : LineRecord) → Reads line 3 r → r.position ≡ found.position
    → r.bound ≡ found.bound → IsSaid line found.says → IsFoundIn line found
found_by one line r found reads position bound said = record {
  reads = (r, reads);
  position = λ other is. ap (λ x. x.position) (one line 3 other r is reads) ∙ position;
  bound = λ other is. ap (λ x. x.bound) (one line 3 other r is reads) ∙ bound;
  said = said;
}

-- A record whose bound isn't the default one says it.
pub found_said : SaysOne → (line : List ℕ) (default : ℕ) (found : LineRecord) → IsReadBy line default found → found.bound ≢ default
    → IsFoundIn line found
unfolding IsReadBy
found_said one line default found (r, reads, position, bound, says) other =
    let said : SaysBound line = said_by_line line default r reads (λ same. other (sym bound ∙ same)) in
    let same : said.0 ≡ r = one line default said.0 r (said.1 default) reads in
    found_by one line said.0 found (said.1 3) (ap (λ x. x.position) same ∙ position) (ap (λ x. x.bound) same ∙ bound)
    (subst (λ b. IsSaid line b) (sym says) said)

-- A record whose bound is each time another doesn't.
pub found_unsaid : SaysOne → (line : List ℕ) (default : ℕ) (first again found : LineRecord) → IsReadBy line default first
    → IsReadBy line 3 again → first.bound ≢ again.bound → again.position ≡ found.position → again.bound ≡ found.bound → found.says ≡ false
    → IsFoundIn line found
unfolding IsReadBy
found_unsaid one line default first again found (r, reads, position, bound, says) (r', reads', position', bound', says') differ same same' is =
    let unsaid : ¬ (SaysBound line) = said_by_none line default 3 r r' (λ other. one line default r other reads)
    (λ other. one line 3 r' other reads') (λ equal. differ (sym bound ∙ equal ∙ bound')) in
    found_by one line r' found reads' (position' ∙ same) (bound' ∙ same') (subst (λ b. IsSaid line b) (sym is) unsaid)

-- What is added to the counts by what is printed.
use Rattle.std.proofs.Common.{◌≡◌, ℕ, Bool, List, [], ◌∷◌, ◌++◌}
use Rattle.problem_import.specs.inside.Counted.{AreCounted, IsSaid, is_no_bound, of_record, of_refusal, with_record, with_refusal}
use Rattle.problem_import.specs.Imports.{IsRecord, refused_line}
use Rattle.problem_import.specs.declared.import_counts.ImportCounts.{ImportCounts}
use Rattle.problem_import.specs.declared.import_faults.ImportFault.{ImportFault}

pub record_counted : (first c after : ImportCounts) (text line new : List ℕ) (says : Bool) → IsRecord line → IsSaid line says
    → new ≡ text ++ line ++ 10 ∷ [] → after ≡ with_record says c → AreCounted first text c → AreCounted first new after
record_counted first c after text line new says is said made counted before = rw (made, counted) (of_record text line says c before is said)

pub refusal_counted : (first c after : ImportCounts) (text new : List ℕ) (number : ℕ) (fault : ImportFault)
    → new ≡ text ++ refused_line number fault → after ≡ with_refusal (is_no_bound fault) c → AreCounted first text c
    → AreCounted first new after
refusal_counted first c after text new number fault made counted before = rw (made, counted) (of_refusal text number fault c before)

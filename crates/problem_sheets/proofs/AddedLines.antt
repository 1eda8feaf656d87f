-- What one line adds, and one file.
use Rattle.std.proofs.Common.{◌≡◌, ◌≢◌, ◌⊎◌, ◌++◌, ℕ, List, [], ◌∷◌, inl, inr, false, sym, subst}
use Rattle.chess_notation.specs.declared.epd_faults.EpdFault.{EpdFault}
use Rattle.chess_notation.specs.declared.epd_faults.EpdFault.TheVariants as fault
use Rattle.chess_notation.specs.EpdFaults.{IsFaultOf}
use Rattle.chess_notation.specs.Records.{RecordValue, Reads}
use Rattle.chess_notation.specs.Words.{is_blank}
use Rattle.problem_sheets.specs.Contents.{Adds, ContentsValue, problem_in, refused, refused_text, told}
use Rattle.problem_sheets.specs.Problems.{PageProblemValue}

module _ (default : ℕ) (name : List ℕ) (number : ℕ) (line : List ℕ) (before : ContentsValue) (ps : List PageProblemValue) (lines : List ℕ) where
  pub adds_problem : (r : RecordValue) (new : List PageProblemValue) → is_blank line ≡ false → Reads line default r
      → record { problems = ps; refused = lines } ≡ before → new ≡ ps ++ problem_in line r ∷ []
      → Adds default name number line before (record { problems = new; refused = lines })
  adds_problem r new some reads is more =
      subst (λ (b : ContentsValue). Adds default name number line b (record { problems = new; refused = lines })) is
      (subst (λ (xs : List PageProblemValue). Adds default name number line (record { problems = ps; refused = lines })
      (record { problems = xs; refused = lines })) (sym more) (told r some reads))

  pub adds_refused : {X : Type 0} (f : EpdFault) (new : List ℕ) → is_blank line ≡ false
      → IsFaultOf line f ⊎ ((f ≡ fault.NoMemory) × X) → f ≢ fault.NoMemory
      → record { problems = ps; refused = lines } ≡ before → new ≡ lines ++ refused_text name number f
      → Adds default name number line before (record { problems = ps; refused = new })
  adds_refused f new some (inl first) other is more =
      subst (λ (b : ContentsValue). Adds default name number line b (record { problems = ps; refused = new })) is
      (subst (λ (xs : List ℕ). Adds default name number line (record { problems = ps; refused = lines })
      (record { problems = ps; refused = xs })) (sym more) (refused f some first))
  adds_refused f new some (inr memory) other is more = absurd (other memory.0)

-- The replies to records each of which may take so many seconds (own to this project).
use Rattle.std.specs.Prelude.{◌≡◌, ◌<◌, ℕ, List, ◌∷◌, [], ◌++◌, false}
use Rattle.chess_board.specs.Characters.{char}
use Rattle.chess_notation.specs.Words.{is_blank}
use Rattle.chess_problems.specs.Problems.{ProblemValue}
use Rattle.chess_problems.specs.declared.outcomes.Outcome.TheVariants.{NoMate}
use Rattle.chess_notation.specs.Records.{RecordValue, Reads}
use Rattle.chess_notation.specs.Answers.{undecided_text}
use Rattle.chess_notation.specs.SaidBounds.{says_bound}
use Rattle.mate_answers.specs.InputReplies.{IsLineReply}
use Rattle.mate_search.specs.inside.Truth.{truth}

-- what a record asks, within so many moves instead
abbrev pub problem_within : ℕ → RecordValue → ProblemValue
problem_within n r = record { position = r.position; bound = n; avoid = r.avoid }

-- That there is no mate within so many moves of fewer than the record asks for.
pub record IsNoneSoFar (r : RecordValue) (none : ℕ) : Type 0 where
  pub fewer : none < r.bound
  pub no_mate : truth (problem_within none r) ≡ NoMate

-- the reply to a line that says this record, where no more is known of its problem in time than that there is no mate within so many moves
abbrev pub undecided_line : ℕ → ℕ → List ℕ → RecordValue → List ℕ
undecided_line none seconds line r = undecided_text (says_bound line) r none seconds ++ char "\n" ∷ []

-- A reply to a line that says this record is that it was not decided, and what is true so far.
abbrev pub IsUndecidedLine : ℕ → List ℕ → RecordValue → List ℕ → Type 0
IsUndecidedLine seconds line r text = (none : ℕ) × IsNoneSoFar r none × (text ≡ undecided_line none seconds line r)

-- What one line is answered, and how many refusals that is: as without a limit, or, where the limit may stop a search at all, that it was not
-- decided, and what is true so far.
pub data IsLimitedReply (stops : Type 0) (seconds default number : ℕ) (line : List ℕ) : List ℕ → ℕ → Type 0 where
  decided : (text : List ℕ) (count : ℕ) → IsLineReply default number line text count → IsLimitedReply stops seconds default number line text count
  undecided : stops → (r : RecordValue) (none : ℕ) → is_blank line ≡ false → Reads line default r → IsNoneSoFar r none
      → IsLimitedReply stops seconds default number line (undecided_line none seconds line r) 0

-- What one line is answered, and how many of its replies are that it was not decided: one or none.
pub data IsLateReply (stops : Type 0) (seconds default number : ℕ) (line : List ℕ) : List ℕ → ℕ → Type 0 where
  in_time : (text : List ℕ) (count : ℕ) → IsLineReply default number line text count → IsLateReply stops seconds default number line text 0
  late : stops → (r : RecordValue) (none : ℕ) → is_blank line ≡ false → Reads line default r → IsNoneSoFar r none
      → IsLateReply stops seconds default number line (undecided_line none seconds line r) 1

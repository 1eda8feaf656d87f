-- What is asked of a solver under a ticket, and what is answered (own to this project).
use Rattle.std.specs.Prelude.{ℕ}
use Rattle.chess_problems.specs.Problems.{ProblemValue}
use Rattle.chess_problems.specs.declared.outcomes.Outcome.{Outcome}
use Rattle.chess_notation.specs.Records.{RecordValue, problem_of}
use Rattle.mate_search.specs.inside.Truth.{truth}

-- a problem, under its ticket
pub record Task : Type 0 where
  pub ticket : ℕ
  pub problem : ProblemValue

-- a record, with what is told of its problem
pub record AnswerValue : Type 0 where
  pub asked : RecordValue
  pub outcome : Outcome

-- the right answer to a record: what is true of its problem
abbrev pub answer_to : RecordValue → AnswerValue
answer_to asked = record { asked = asked; outcome = truth (problem_of asked) }

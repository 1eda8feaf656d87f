-- Lines and records: a line with a fault says no record, a line says one record at most, and an answer is a record again.
use Rattle.std.specs.Prelude.{◌≡◌, ℕ, ◌≤◌, List, length}
use Rattle.chess_problems.specs.declared.outcomes.Outcome.{Outcome}
use Rattle.chess_problems.specs.declared.outcomes.Outcome.TheVariants.{Mate, NoMate}
use Rattle.chess_problems.specs.Problems.{max_bound}
use Rattle.chess_notation.specs.Records.{RecordValue, Reads, max_line}
use Rattle.chess_notation.specs.EpdFaults.{HasNoFault}
use Rattle.chess_notation.specs.Answers.{answer_text}
use Rattle.chess_notation.specs.Claims.{AreOperandsOfKeys, claim_words}
use Rattle.chess_problems.specs.Outcomes.{IsPlayable}

-- A line that says a record has no fault.
abbrev pub RecordsClear : Type 0
RecordsClear = (line : List ℕ) (default : ℕ) (r : RecordValue) → Reads line default r → HasNoFault line

-- It says no two.
abbrev pub SaysOne : Type 0
SaysOne = (line : List ℕ) (default : ℕ) (r other : RecordValue) → Reads line default r → Reads line default other → r ≡ other

-- what an answer says when it is read as a record: the same moves are to be avoided, and its bound is the length of the mate, or the
-- default where there is none
abbrev pub answered : RecordValue → Outcome → ℕ → RecordValue
answered r (Mate dm keys pv) default = record { position = r.position; bound = dm; avoid = r.avoid; rest = r.rest }
answered r NoMate default = record { position = r.position; bound = default; avoid = r.avoid; rest = r.rest }

-- The mate is one within the greatest bound.
abbrev pub HasLength : Outcome → Type 0
HasLength (Mate dm keys pv) = (1 ≤ dm) × (dm ≤ max_bound)
HasLength NoMate = Unit {0}

-- An answer that is no longer than a record may be, made for a record that was read, says that record again.
abbrev pub AnswerReads : Type 0
AnswerReads = (line : List ℕ) (asked default : ℕ) (r : RecordValue) (outcome : Outcome) → Reads line asked r → IsPlayable r.position outcome
    → HasLength outcome → length (answer_text r outcome) ≤ max_line → Reads (answer_text r outcome) default (answered r outcome default)

-- What the line of a record claims are the operands of its `bm`.
abbrev pub ClaimsRead : Type 0
ClaimsRead = (line : List ℕ) (default : ℕ) (r : RecordValue) → (reads : Reads line default r) → AreOperandsOfKeys reads.operations (claim_words line)

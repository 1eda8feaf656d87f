-- Scripts: a desk and what is done with it, line by line (own to this project).
use Rattle.std.specs.Prelude.{◌≡◌, ◌<◌, ◌≤◌, ◌+◌, ◌++◌, ℕ, List, [], ◌∷◌, codes, length, map, true, ⊤, if◌then◌else◌}
use Rattle.std.specs.List.{list_all}
use Rattle.chess_board.specs.Fields.{digits_value}
use Rattle.chess_problems.specs.Problems.{max_bound}
use Rattle.chess_notation.specs.Operations.{is_digit}
use Rattle.chess_notation.specs.Words.{is_blank}
use Rattle.mate_desk.specs.declared.steps_and_replies.Step.{Step}
use Rattle.mate_desk.specs.declared.steps_and_replies.Step.TheVariants as step
use Rattle.text_lines.specs.Lines.{lines_of, without_cr}
use Rattle.desk_scripts.specs.declared.scripts.Script.{Script}
use Rattle.desk_scripts.specs.declared.scripts.ScriptFault.{ScriptFault}
use Rattle.desk_scripts.specs.declared.scripts.ScriptFault.TheVariants as fault

-- what is done with a desk, with the bytes of a record
pub data StepValue : Type 0 where
  Submit : ℕ → List ℕ → StepValue
  Take : StepValue
  Finish : ℕ → StepValue
  HandBack : ℕ → StepValue
  Collect : ℕ → StepValue
  Withdraw : ℕ → ℕ → StepValue
  Drained : StepValue
  Close : StepValue

abbrev pub step_value : Step → StepValue
step_value (step.Submit s bytes) = Submit s bytes.items
step_value step.Take = Take
step_value (step.Finish i) = Finish i
step_value (step.HandBack i) = HandBack i
step_value (step.Collect s) = Collect s
step_value (step.Withdraw s n) = Withdraw s n
step_value step.Drained = Drained
step_value step.Close = Close

-- what a script says
pub record ScriptValue : Type 0 where
  pub submitters : ℕ
  pub room : ℕ
  pub bound : ℕ
  pub steps : List StepValue

abbrev pub script_value : Script → ScriptValue
script_value s = record { submitters = s.submitters; room = s.room; bound = s.bound; steps = map step_value s.steps.items }

-- A number has one to nine digits; zeros may stand in front.
abbrev pub SpellsNumber : List ℕ → ℕ → Type 0
SpellsNumber text n = (0 < length text) × (length text ≤ 9) × (list_all is_digit text ≡ true) × (n ≡ digits_value text)

-- The line that opens a desk: how many submitters it has, for how many pending records each has room, and within how many moves
-- mate is asked for where a record doesn't say.
abbrev pub SpellsDesk : List ℕ → (submitters room bound : ℕ) → Type 0
SpellsDesk line submitters room bound = (s : List ℕ) × (r : List ℕ) × (b : List ℕ)
    × (line ≡ codes "desk " ++ (s ++ 32 ∷ (r ++ 32 ∷ b)))
    × SpellsNumber s submitters × SpellsNumber r room × SpellsNumber b bound × (1 ≤ bound) × (bound ≤ max_bound)

-- The line of a step. One space stands between its words, and a record is all that follows the space behind the submitter.
abbrev pub SpellsStep : List ℕ → StepValue → Type 0
SpellsStep line (Submit s bytes) = (number : List ℕ) × (line ≡ codes "submit " ++ (number ++ 32 ∷ bytes)) × SpellsNumber number s
SpellsStep line Take = line ≡ codes "take"
SpellsStep line (Finish i) = (number : List ℕ) × (line ≡ codes "finish " ++ number) × SpellsNumber number i
SpellsStep line (HandBack i) = (number : List ℕ) × (line ≡ codes "handback " ++ number) × SpellsNumber number i
SpellsStep line (Collect s) = (number : List ℕ) × (line ≡ codes "collect " ++ number) × SpellsNumber number s
SpellsStep line (Withdraw s n) = (submitter : List ℕ) × (number : List ℕ)
    × (line ≡ codes "withdraw " ++ (submitter ++ 32 ∷ number)) × SpellsNumber submitter s × SpellsNumber number n
SpellsStep line Drained = line ≡ codes "drained"
SpellsStep line Close = line ≡ codes "close"

-- a line and its number in the script, counted from 1
pub record Line : Type 0 where
  pub number : ℕ
  pub text : List ℕ

-- the lines that aren't blank, each without one CR at its end, where the first of all has this number
abbrev pub said_from : ℕ → List (List ℕ) → List Line
said_from k [] = []
said_from k (line ∷ lines) =
    if is_blank (without_cr line) then said_from (k + 1) lines else record { number = k; text = without_cr line } ∷ said_from (k + 1) lines

-- the lines of a script that say something
unfoldable pub said : List ℕ → List Line
said script = said_from 1 (lines_of script)

-- Each of these lines is one of these steps, in order.
abbrev pub SpellEach : List Line → List StepValue → Type 0
SpellEach [] [] = ⊤
SpellEach (line ∷ lines) (step ∷ steps) = SpellsStep line.text step × SpellEach lines steps
SpellEach _ _ = ⊥

-- A script: of its lines that aren't blank the first opens a desk, and each other is a step.
pub record IsScript (script : List ℕ) (v : ScriptValue) : Type 0 where
  pub opening : Line
  pub others : List Line
  pub lines : said script ≡ opening ∷ others
  pub opens : SpellsDesk opening.text v.submitters v.room v.bound
  pub each : SpellEach others v.steps

abbrev pub IsDesk : Line → Type 0
IsDesk line = (submitters : ℕ) × (room : ℕ) × (bound : ℕ) × SpellsDesk line.text submitters room bound

abbrev pub IsStep : Line → Type 0
IsStep line = (step : StepValue) × SpellsStep line.text step

abbrev pub AreSteps : List Line → Type 0
AreSteps lines = (steps : List StepValue) × SpellEach lines steps

-- The first of these lines that is no step has this number.
pub record IsFirstNoStep (lines : List Line) (number : ℕ) : Type 0 where
  pub before : List Line
  pub line : Line
  pub behind : List Line
  pub cut : lines ≡ before ++ line ∷ behind
  pub steps : AreSteps before
  pub no_step : ¬ IsStep line
  pub here : number ≡ line.number

-- The first faulty line, by its number: 0 where all lines are blank, the first that isn't where it opens no desk, or the first
-- behind it that is no step.
pub data IsFirstFault (script : List ℕ) : ℕ → Type 0 where
  all_blank : said script ≡ [] → IsFirstFault script 0
  no_desk : (opening : Line) (others : List Line) → said script ≡ opening ∷ others → ¬ IsDesk opening → IsFirstFault script opening.number
  no_step : (opening : Line) (others : List Line) (number : ℕ) → said script ≡ opening ∷ others → IsDesk opening → IsFirstNoStep others number
      → IsFirstFault script number

-- Some of these lines from the first on are steps.
pub record ReachStep (lines : List Line) : Type 0 where
  pub before : List Line
  pub line : Line
  pub behind : List Line
  pub cut : lines ≡ before ++ line ∷ behind
  pub steps : AreSteps before
  pub step : IsStep line

-- The first lines are as they should be, as far as a step.
pub record ReachesStep (script : List ℕ) : Type 0 where
  pub opening : Line
  pub others : List Line
  pub lines : said script ≡ opening ∷ others
  pub opens : IsDesk opening
  pub reach : ReachStep others

-- Why a text is not read as a script: a line is at fault; or memory is refused, which is wanted for steps alone.
abbrev pub IsRefused : List ℕ → ScriptFault → Type 0
IsRefused script (fault.Line number) = IsFirstFault script number
IsRefused script fault.NoMemory = ReachesStep script

-- The same of lines of steps.
abbrev pub AreRefused : List Line → ScriptFault → Type 0
AreRefused lines (fault.Line number) = IsFirstNoStep lines number
AreRefused lines fault.NoMemory = ReachStep lines

abbrev pub script_fault_name : ScriptFault → List ℕ
script_fault_name (fault.Line number) = codes "Line"
script_fault_name fault.NoMemory = codes "NoMemory"

-- Not for believing: how the lines of a script are taken apart; `SpellsDesk` and `SpellsStep` say how they are put together.
use Rattle.std.specs.Prelude.{◌≡◌, ◌==◌, ◌&&◌, ℕ, Bool, List, [], ◌∷◌, Option, None, Some, codes, length, IsSome}
use Rattle.std.specs.Prelude.{nat_le, nat_lt, option_map, option_and_then, if◌then◌else◌}
use Rattle.std.specs.List.{list_all}
use Rattle.std.specs.Str.{bytes_eq}
use Rattle.chess_board.specs.Fields.{digits_value}
use Rattle.chess_problems.specs.Problems.{bound_of}
use Rattle.chess_notation.specs.Operations.{is_digit}
use Rattle.desk_scripts.specs.declared.script_lines.Line.{Line as LineRead}
use Rattle.desk_scripts.specs.declared.scripts.ScriptFault.{ScriptFault}
use Rattle.desk_scripts.specs.declared.scripts.ScriptFault.TheVariants as fault
use Rattle.desk_scripts.specs.Scripts.{Line, StepValue, Submit, Take, Finish, HandBack, Collect, Withdraw, Drained, Close}

-- what a line holds
abbrev pub line_value : LineRead → Line
line_value line = record { number = line.number; text = line.text.now }

abbrev pub with_byte : ℕ → List ℕ × List ℕ → List ℕ × List ℕ
with_byte b cut = (b ∷ cut.0, cut.1)

-- what stands before the first of these bytes, and behind it
abbrev pub cut_at : ℕ → List ℕ → Option (List ℕ × List ℕ)
cut_at byte [] = None
cut_at byte (b ∷ bs) = if b == byte then Some ([], bs) else option_map (with_byte b) (cut_at byte bs)

abbrev pub is_number : List ℕ → Bool
is_number text = nat_lt 0 (length text) && nat_le (length text) 9 && list_all is_digit text

unfoldable pub number_of : List ℕ → Option ℕ
number_of text = if is_number text then Some (digits_value text) else None

abbrev pub with_rest : List ℕ → ℕ → ℕ × List ℕ
with_rest rest n = (n, rest)

-- a number, and what stands behind the space that follows it
abbrev pub number_cut : List ℕ → Option (ℕ × List ℕ)
number_cut text = option_and_then (λ cut. option_map (with_rest cut.1) (number_of cut.0)) (cut_at 32 text)

abbrev pub submit_of : List ℕ → Option StepValue
submit_of text = option_map (λ cut. Submit cut.0 cut.1) (number_cut text)

abbrev pub withdraw_of : List ℕ → Option StepValue
withdraw_of text = option_and_then (λ cut. option_map (λ n. Withdraw cut.0 n) (number_of cut.1)) (number_cut text)

-- a step of one word
unfoldable pub plain_step : List ℕ → Option StepValue
plain_step word =
    if bytes_eq word (codes "take") then Some Take
    else if bytes_eq word (codes "drained") then Some Drained
    else if bytes_eq word (codes "close") then Some Close
    else None

-- a step that says a number
abbrev pub numbered : List ℕ → List ℕ → Option StepValue
numbered word text =
    if bytes_eq word (codes "finish") then option_map Finish (number_of text)
    else if bytes_eq word (codes "handback") then option_map HandBack (number_of text)
    else if bytes_eq word (codes "collect") then option_map Collect (number_of text)
    else None

-- a step by its first word and by what stands behind the space that follows it
unfoldable pub step_by : List ℕ → List ℕ → Option StepValue
step_by word text =
    if bytes_eq word (codes "submit") then submit_of text
    else if bytes_eq word (codes "withdraw") then withdraw_of text
    else numbered word text

abbrev pub step_in : List ℕ → Option (List ℕ × List ℕ) → Option StepValue
step_in line None = plain_step line
step_in line (Some cut) = step_by cut.0 cut.1

-- the step that a line says
unfoldable pub step_of : List ℕ → Option StepValue
step_of line = step_in line (cut_at 32 line)

-- why a line is refused where a step should be: it says none, or memory for what it says is refused
abbrev pub IsStepFault : Line → ScriptFault → Type 0
IsStepFault line (fault.Line number) = (number ≡ line.number) × (None ≡ step_of line.text)
IsStepFault line fault.NoMemory = IsSome (step_of line.text)

-- what the line that opens a desk says
pub record DeskValue : Type 0 where
  pub submitters : ℕ
  pub room : ℕ
  pub bound : ℕ

abbrev pub numbers_behind : ℕ → List ℕ → Option DeskValue
numbers_behind submitters text =
    option_and_then (λ r. option_and_then (λ n. option_map (λ b. record { submitters = submitters; room = r.0; bound = b }) (bound_of n))
    (number_of r.1)) (number_cut text)

abbrev pub desk_numbers : List ℕ → Option DeskValue
desk_numbers text = option_and_then (λ s. numbers_behind s.0 s.1) (number_cut text)

-- the desk that a line opens
unfoldable pub desk_of : List ℕ → Option DeskValue
desk_of line = option_and_then (λ cut. if bytes_eq cut.0 (codes "desk") then desk_numbers cut.1 else None) (cut_at 32 line)

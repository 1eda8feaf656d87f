-- The lines of a script, as far as they are read.
use Rattle.std.proofs.Common.{◌≡◌, ◌++◌, ℕ, List, [], ◌∷◌, Option, None, Some, Result, Ok, Err}
use Rattle.std.proofs.Common.{IsErrAnd, IfErr, IsSome, refl, sym, ap, ◌∙◌, subst, append_assoc}
use Rattle.std.proofs.lemmas.Bool.{false≢true}
use Rattle.std.proofs.lemmas.List.{append-nil}
use Rattle.std.proofs.lemmas.Option.{none-some}
use Rattle.desk_scripts.specs.Scripts.{StepValue, Line, SpellsStep, SpellEach, IsDesk, IsStep, IsFirstNoStep}
use Rattle.desk_scripts.specs.Scripts.{ReachStep, AreRefused, IsRefused, said, no_step}
use Rattle.desk_scripts.specs.inside.ScriptReading.{DeskValue, IsStepFault, desk_of, step_of}
use Rattle.desk_scripts.specs.declared.scripts.ScriptFault.{ScriptFault}
use Rattle.desk_scripts.specs.declared.scripts.ScriptFault.TheVariants as fault
use Rattle.desk_scripts.proofs.DeskLaws.{desk_spelled, desk_read}
use Rattle.desk_scripts.proofs.StepLaws.{step_spelled, step_read}

-- Of these lines those before the ones that are left are these steps.
pub record AreReadTo (lines left : List Line) (steps : List StepValue) : Type 0 where
  pub before : List Line
  pub cut : lines ≡ before ++ left
  pub each : SpellEach before steps

pub read_none : (lines : List Line) → AreReadTo lines lines []
read_none lines = record { before = []; cut = refl; each = tt }

each_more : (lines : List Line) (steps : List StepValue) (line : Line) (step : StepValue) → SpellEach lines steps → SpellsStep line.text step
    → SpellEach (lines ++ line ∷ []) (steps ++ step ∷ [])
each_more [] [] line step each more = (more, tt)
each_more [] (s ∷ ss) line step each more = absurd each
each_more (l ∷ ls) [] line step each more = absurd each
each_more (l ∷ ls) (s ∷ ss) line step each more = (each.0, each_more ls ss line step each.1 more)

pub read_more : (lines left others : List Line) (steps : List StepValue) (line : Line) (step : StepValue)
    → AreReadTo lines left steps → left ≡ line ∷ others
    → Some step ≡ step_of line.text → AreReadTo lines others (steps ++ step ∷ [])
read_more lines left others steps line step so_far cut says = record {
  before = so_far.before ++ line ∷ [];
  cut = so_far.cut ∙ ap (λ t. so_far.before ++ t) cut ∙ sym (append_assoc so_far.before (line ∷ []) others);
  each = each_more so_far.before steps line step so_far.each (step_spelled line.text step (sym says));
}

pub read_all : (lines left : List Line) (steps : List StepValue) → AreReadTo lines left steps → left ≡ [] → SpellEach lines steps
read_all lines left steps so_far none =
    subst (λ l. SpellEach l steps) (sym (so_far.cut ∙ ap (λ t. so_far.before ++ t) none ∙ append-nil so_far.before)) so_far.each

says_no_step : (line : Line) → None ≡ step_of line.text → ¬ IsStep line
says_no_step line none (step, spelled) = none-some step (none ∙ step_read line.text step spelled)

pub read_to_fault : (lines left others : List Line) (steps : List StepValue) (line : Line) → AreReadTo lines left steps → left ≡ line ∷ others
    → None ≡ step_of line.text → IsFirstNoStep lines line.number
read_to_fault lines left others steps line so_far cut none = record {
  before = so_far.before;
  line = line;
  behind = others;
  cut = so_far.cut ∙ ap (λ t. so_far.before ++ t) cut;
  steps = (steps, so_far.each);
  no_step = says_no_step line none;
  here = refl;
}

is_step : (line : Line) (says : Option StepValue) → says ≡ step_of line.text → IsSome says → IsStep line
is_step line None is some = absurd (false≢true some)
is_step line (Some step) is some = (step, step_spelled line.text step (sym is))

pub read_to_step : (lines left others : List Line) (steps : List StepValue) (line : Line) → AreReadTo lines left steps → left ≡ line ∷ others
    → IsSome (step_of line.text) → ReachStep lines
read_to_step lines left others steps line so_far cut some = record {
  before = so_far.before;
  line = line;
  behind = others;
  cut = so_far.cut ∙ ap (λ t. so_far.before ++ t) cut;
  steps = (steps, so_far.each);
  step = is_step line (step_of line.text) refl some;
}

-- what is returned where a `?` ends a function
pub refused_by : {T E : Type 0} {Q : E → Type 0} (P : E → Type 0) (r : Result T E) → IsErrAnd r Q → ((e : E) → Q e → P e) → IfErr r P
refused_by P (Ok x) is refuses = tt
refused_by P (Err e) is refuses = refuses e is

pub no_desk : (line : Line) → None ≡ desk_of line.text → ¬ IsDesk line
no_desk line none (submitters, room, bound, spelled) = none-some _ (none ∙ desk_read line.text submitters room bound spelled)

pub is_desk : (line : Line) (desk : DeskValue) → Some desk ≡ desk_of line.text → IsDesk line
is_desk line desk says = (desk.submitters, desk.room, desk.bound, desk_spelled line.text desk (sym says))

-- Where the lines behind the opening are refused, the script is.
pub refused_behind : (script : List ℕ) (opening : Line) (others : List Line) (f : ScriptFault) → said script ≡ opening ∷ others → IsDesk opening
    → AreRefused others f → IsRefused script f
refused_behind script opening others (fault.Line number) cut desk refused = no_step opening others number cut desk refused
refused_behind script opening others fault.NoMemory cut desk refused =
    record { opening = opening; others = others; lines = cut; opens = desk; reach = refused }

pub read_to_refused : (lines left others : List Line) (steps : List StepValue) (line : Line) (f : ScriptFault) → AreReadTo lines left steps
    → left ≡ line ∷ others → IsStepFault line f → AreRefused lines f
read_to_refused lines left others steps line (fault.Line number) so_far cut (here, none) =
    subst (IsFirstNoStep lines) (sym here) (read_to_fault lines left others steps line so_far cut none)
read_to_refused lines left others steps line fault.NoMemory so_far cut some = read_to_step lines left others steps line so_far cut some

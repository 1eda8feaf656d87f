use Rattle.std.proofs.Common.{◌≢◌, ◌∙◌, Some, sym, ap, subst}
use Rattle.desk_scripts.specs.Scripts.{IsRefused, IsScript, ScriptValue, all_blank, no_desk as opens_no_desk}
use Rattle.desk_scripts.specs.inside.ScriptReading.{line_value}
use Rattle.desk_scripts.specs.declared.scripts.ScriptFault.TheVariants as fault
use Rattle.desk_scripts.proofs.DeskLaws.{desk_spelled}
use Rattle.desk_scripts.proofs.OneScript.{script_one, refused_no_script}
use Rattle.desk_scripts.proofs.ScriptLaws.{refused_by, refused_behind, no_desk, is_desk}
use Rattle.desk_scripts.proofs.scripts.read_script.Goals as goal

pub returns-in_default-clause-refused : goal.returns-in_default-clause-refused
returns-in_default-clause-refused c = all_blank (sym c.new-lines.ensures ∙ c.in_default.ensures.none)

pub returns-in_default-read_desk-clause-refused : goal.returns-in_default-read_desk-clause-refused
returns-in_default-read_desk-clause-refused c =
    opens_no_desk (line_value c.in-Some.opening) c.next.new.self (sym c.new-lines.ensures ∙ c.in-Some.ensures.line)
    (no_desk (line_value c.in-Some.opening) c.in_default-read_desk.ensures)

pub returns-in_default-read_desk-clause-no_script : goal.returns-in_default-read_desk-clause-no_script
returns-in_default-read_desk-clause-no_script c =
    refused_no_script c.args.text.now (fault.Line c.in-Some.opening.number) (returns-in_default-read_desk-clause-refused c)

steps_refused : (c : goal.After-from_residual) → IsRefused c.args.text.now c.in_err-read_steps.field-0.0
steps_refused c =
    let desk = is_desk (line_value c.in-Some.opening) c.in-Some-read_desk.desk c.in-Some-read_desk.ensures in
    refused_behind c.args.text.now (line_value c.in-Some.opening) c.next.new.self c.in_err-read_steps.field-0.0
    (sym c.new-lines.ensures ∙ c.in-Some.ensures.line) desk
    c.in_err-read_steps.ensures.refused

pub returns-in_err-read_steps-clause-refused : goal.returns-in_err-read_steps-clause-refused
returns-in_err-read_steps-clause-refused c =
    let P = IsRefused c.args.text.now in
    refused_by P c.from_residual.result c.from_residual.ensures.1 (λ f is. subst P (sym is) (steps_refused c))

pub returns-in_err-read_steps-clause-no_script : goal.returns-in_err-read_steps-clause-no_script
returns-in_err-read_steps-clause-no_script c =
    refused_by (λ f. f ≢ fault.NoMemory → (v : ScriptValue) → ¬ IsScript c.args.text.now v) c.from_residual.result c.from_residual.ensures.1
    (λ f is. refused_no_script c.args.text.now f (subst (IsRefused c.args.text.now) (sym is) (steps_refused c)))

pub returns-clause-script : goal.returns-clause-script
returns-clause-script c = record {
  opening = line_value c.in-Some.opening;
  others = c.next.new.self;
  lines = sym c.new-lines.ensures ∙ c.in-Some.ensures.line;
  opens = desk_spelled c.in-Some.opening.text.now _ (sym (ap Some c.desk.view_is ∙ c.in-Some-read_desk.ensures));
  each = c.in_ok-read_steps.ensures.steps;
}

pub returns-clause-only : goal.returns-clause-only
returns-clause-only c = λ v is. script_one c.args.text.now v _ is (returns-clause-script c)

use Rattle.std.proofs.Common.{◌∙◌, [], ◌∷◌, IsSome, refl, sym, ap, subst, map}
use Rattle.std.proofs.lemmas.List.{map-append}
use Rattle.desk_scripts.specs.Scripts.{AreRefused, step_value}
use Rattle.desk_scripts.specs.inside.ScriptReading.{line_value, step_of}
use Rattle.desk_scripts.proofs.ScriptLaws.{AreReadTo, refused_by, read_more, read_to_refused, read_to_step}
use Rattle.desk_scripts.proofs.scripts.read_steps.Goals as goal

pub returns-in_err-step-clause-refused : goal.returns-in_err-step-clause-refused
returns-in_err-step-clause-refused c =
    let here = read_to_refused c.args.lines.now c.loop-line.lines c.next.new.self (map step_value c.loop-line.steps.items)
    (line_value c.in-Some.line) c.in_err-step.field-0.0 c.loop-line.invariant c.in-Some.ensures.line c.in_err-step.ensures.refused in
    refused_by (AreRefused c.args.lines.now) c.from_residual.result c.from_residual.ensures.1
    (λ fault is. subst (AreRefused c.args.lines.now) (sym is) here)

pub returns-in_err-push-clause-refused : goal.returns-in_err-push-clause-refused
returns-in_err-push-clause-refused c =
    let some : IsSome (step_of c.in-Some.line.text.now) = subst IsSome c.in_ok-step.ensures.step refl in
    let here = read_to_step c.args.lines.now c.loop-line.lines c.next.new.self (map step_value c.loop-line.steps.items)
    (line_value c.in-Some.line) c.loop-line.invariant c.in-Some.ensures.line some in
    refused_by (AreRefused c.args.lines.now) c.from_residual-in_err-push.result c.from_residual-in_err-push.ensures.1
    (λ fault is. subst (AreRefused c.args.lines.now) (sym is) here)

pub loop-line-preserved : goal.loop-line-preserved
loop-line-preserved c =
    let more = read_more c.args.lines.now c.loop-line.lines c.next.new.self (map step_value c.loop-line.steps.items)
    (line_value c.in-Some.line) (step_value c.in_ok-step.step) c.loop-line.invariant c.in-Some.ensures.line c.in_ok-step.ensures.step in
    subst (AreReadTo c.args.lines.now c.next.new.self) (sym (ap (map step_value) c.in_ok-push.ensures.items
    ∙ map-append step_value c.loop-line.steps.items (c.in_ok-step.step ∷ []))) more

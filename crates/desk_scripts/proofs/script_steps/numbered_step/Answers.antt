use Rattle.std.proofs.Common.{◌∙◌, ap, option_map}
use Rattle.desk_scripts.specs.Scripts.{step_value}
use Rattle.desk_scripts.proofs.StepLaws.{numbered_none}
use Rattle.desk_scripts.proofs.script_steps.numbered_step.Goals as goal

pub returns-in_err-number : goal.returns-in_err-number
returns-in_err-number c =
    ap (option_map step_value) c.from_residual.ensures ∙ numbered_none c.args.word.now c.args.text.now c.in_err-number.ensures

use Rattle.std.proofs.Common.{◌∙◌}
use Rattle.std.proofs.lemmas.Result.{IfOk-weaker}
use Rattle.command_words.specs.Commands.{subcommand_app}
use Rattle.command_words.proofs.Tables.{arguments_added}
use Rattle.command_words.proofs.command_line.command_of.Goals as goal

pub returns : goal.returns
unfolding subcommand_app
returns c =
    IfOk-weaker _ _ _
    (λ command added.
    let its = arguments_added _ command _ _ c.in_ok-args.ensures added c.new_command.ensures.local in
    (rw c.new_command.ensures.app at its.0 ∙ c.subcommand_of-told.ensures, its.1))
    c.args-2.ensures

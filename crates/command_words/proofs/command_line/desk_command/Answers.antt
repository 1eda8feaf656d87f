use Rattle.std.proofs.lemmas.Result.{IfOk-weaker}
use Rattle.command_words.specs.CommandLine.{desk_app, with_desk_apps, with_fen_apps, with_line_apps, with_other_apps}
use Rattle.command_words.specs.CommandLine.{with_page_apps, with_problem_apps, with_record_apps}
use Rattle.command_words.specs.Commands.{app_named, with_commands}
use Rattle.command_words.specs.declared.commands.TheConstants.{ORDER}
use Rattle.command_words.proofs.Tables.{with_commands_added}
use Rattle.command_words.proofs.command_line.desk_command.Goals as goal

pub returns : goal.returns
unfolding with_commands app_named desk_app with_page_apps with_line_apps with_other_apps with_fen_apps with_desk_apps with_problem_apps
    with_record_apps
returns c =
    IfOk-weaker _ _ _ (λ command. with_commands_added _ command _ ORDER _ c.bare_command.ensures c.in_ok-commands.ensures) c.subcommands.ensures

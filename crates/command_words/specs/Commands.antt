-- What `clap` reads of the commands, each with its arguments.
use Rattle.std.specs.Prelude.{◌≡◌, List, [], ◌∷◌}
use Rattle.clap.specs.Words.{App}
use Rattle.clap.specs.declared.builder.command.Command.{Command}
use Rattle.command_words.specs.Arguments.{argument_rule}
use Rattle.command_words.specs.ClapWords.{app_of, new_app, with_rule, with_subcommand}
use Rattle.command_words.specs.CommandLine.{IsLocal, explain_app, import_app, look_app, look_lines_app, moves_app, moves_lines_app, perft_app, perft_lines_app}
use Rattle.command_words.specs.CommandLine.{play_app, replay_app, serve_app, sheet_app, solve_app, tree_app, uci_app, verify_app}
use Rattle.command_words.specs.declared.arguments.Argument.{Argument}
use Rattle.command_words.specs.declared.commands.Name.{Name}
use Rattle.command_words.specs.declared.commands.Name.TheVariants as name
use Rattle.command_words.specs.declared.commands.Subcommand.{Subcommand}

-- with these arguments, in turn
unfoldable pub with_arguments : App → List Argument → App
with_arguments app [] = app
with_arguments app (it ∷ rest) = with_arguments (with_rule app (argument_rule it)) rest

-- a command as the table has it
unfoldable pub subcommand_app : Subcommand → App
subcommand_app it = with_arguments (new_app it.name.now) it.arguments.now

-- the command of a name
unfoldable pub app_named : Name → App
app_named name.Solve = solve_app
app_named name.Verify = verify_app
app_named name.Tree = tree_app
app_named name.Import = import_app
app_named name.Serve = serve_app
app_named name.Replay = replay_app
app_named name.Uci = uci_app
app_named name.Look = look_app
app_named name.Play = play_app
app_named name.Moves = moves_app
app_named name.Perft = perft_app
app_named name.Explain = explain_app
app_named name.LookLines = look_lines_app
app_named name.MovesLines = moves_lines_app
app_named name.PerftLines = perft_lines_app
app_named name.Sheet = sheet_app

-- a command as it is named, none of whose arguments is global
abbrev pub IsCommandOf : Name → Command → Type 0
IsCommandOf name command = (app_of command ≡ app_named name) × IsLocal command

-- with the commands of these names, in turn
unfoldable pub with_commands : App → List Name → App
with_commands app [] = app
with_commands app (it ∷ rest) = with_commands (with_subcommand app (app_named it).top) rest

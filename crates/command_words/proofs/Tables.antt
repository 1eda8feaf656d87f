-- The tables of commands and arguments, and what is added of them one after the other.
use Rattle.std.proofs.Common.{◌≡◌, ◌<◌, ◌+◌, ◌++◌, ℕ, List, [], ◌∷◌, length, false, get_or, take, ap, sym, subst}
use Rattle.std.proofs.lemmas.List.{take_more}
use Rattle.std.proofs.lemmas.Slice.Zip.{all_zipped_more}
use Rattle.std.specs.Prelude.{⊤}
use Rattle.std.specs.List.{AllZip}
use Rattle.clap.specs.Words.{AddsArg, AddsInTurn, AddsSubcommand, App}
use Rattle.clap.specs.declared.builder.arg.Arg.{Arg}
use Rattle.clap.specs.declared.builder.command.Command.{Command}
use Rattle.command_words.specs.ClapWords.{app_of, new_rule, rule_of, with_rule, with_subcommand}
use Rattle.command_words.specs.CommandLine.{IsLocal, wanted, depth_rule, bound_rule, import_bound_rule, workers_rule, solve_workers_rule, memo_rule, memory_rule}
use Rattle.command_words.specs.CommandLine.{from_rule, letters_rule, open_letters_rule, fen_letters_rule, limit_rule, tree_workers_rule, with_imported_options, with_row_options}
use Rattle.command_words.specs.CommandLine.{shown_rule, most_lines_rule, flag_rule, title_rule, words_rule, files_rule, with_memo_options, with_solving_options}
use Rattle.command_words.specs.CommandLine.{with_given_records, with_lines_of_files, with_tree_options, with_sheet_flags, with_sheet_options, solve_app, verify_app}
use Rattle.command_words.specs.CommandLine.{tree_app, import_app, serve_app, replay_app, uci_app, look_app, play_app, moves_app, perft_app}
use Rattle.command_words.specs.CommandLine.{explain_app, look_lines_app, moves_lines_app, perft_lines_app, sheet_app}
use Rattle.command_words.specs.Arguments.{IsArgOf, argument_rule, row_rule}
use Rattle.command_words.specs.Commands.{IsCommandOf, app_named, subcommand_app, with_arguments, with_commands}
use Rattle.command_words.specs.Flags.{rule_of_flag}
use Rattle.command_words.specs.declared.arguments.Argument.{Argument}
use Rattle.command_words.specs.declared.commands.Name.{Name}

-- What a proof unfolds to compute what `clap` reads of an argument of the table, and of a command.
unfoldable pub rows_on_literals : ⊤
unfolding row_rule argument_rule rule_of_flag new_rule wanted depth_rule bound_rule import_bound_rule workers_rule solve_workers_rule memo_rule memory_rule from_rule limit_rule
    tree_workers_rule
    shown_rule
    most_lines_rule flag_rule title_rule words_rule files_rule letters_rule open_letters_rule fen_letters_rule
rows_on_literals = tt

unfoldable pub commands_on_literals : ⊤
unfolding subcommand_app app_named with_arguments argument_rule rule_of_flag with_memo_options with_solving_options with_given_records with_lines_of_files with_tree_options with_sheet_flags
    with_row_options with_imported_options
    with_sheet_options solve_app verify_app tree_app import_app serve_app replay_app uci_app look_app play_app moves_app perft_app
    explain_app look_lines_app moves_lines_app perft_lines_app sheet_app
commands_on_literals = tt

-- One more is named, and what it names is pushed.
pub one_more_argument : (its : List Argument) (args args' : List Arg) (i : ℕ) (any : Argument) (arg : Arg) → i < length its
    → AllZip IsArgOf (take i its) args → args' ≡ args ++ arg ∷ [] → rule_of arg ≡ argument_rule (get_or its i any) → arg.global ≡ false
    → AllZip IsArgOf (take (i + 1) its) args'
one_more_argument its args args' i any arg here are more rule local =
    rw (more, take_more its i any here) (all_zipped_more IsArgOf (take i its) args (get_or its i any) arg are (rule, local))

pub one_more_command : (names : List Name) (commands commands' : List Command) (i : ℕ) (any : Name) (command : Command) → i < length names
    → AllZip IsCommandOf (take i names) commands → commands' ≡ commands ++ command ∷ [] → IsCommandOf (get_or names i any) command
    → AllZip IsCommandOf (take (i + 1) names) commands'
one_more_command names commands commands' i any command here are more it =
    rw (more, take_more names i any here) (all_zipped_more IsCommandOf (take i names) commands (get_or names i any) command are it)

argument_added : (old new : Command) (argument : Argument) (arg : Arg) → IsArgOf argument arg → AddsArg old arg new → IsLocal old
    → (app_of new ≡ with_rule (app_of old) (argument_rule argument)) × IsLocal new
unfolding app_of rule_of with_rule
argument_added old new argument arg it added local = (rw (← it.0) (added.shape it.1), rw (local, it.1) at added.globals)

-- Arguments, added in turn, are those that the table has.
pub arguments_added : (old new : Command) (its : List Argument) (args : List Arg) → AllZip IsArgOf its args → AddsInTurn AddsArg old args new
    → IsLocal old → (app_of new ≡ with_arguments (app_of old) its) × IsLocal new
unfolding with_arguments
arguments_added old new [] [] are added local = (ap app_of (sym added), subst IsLocal added local)
arguments_added old new [] (arg ∷ args) are added local = absurd are
arguments_added old new (it ∷ its) [] are added local = absurd are
arguments_added old new (it ∷ its) (arg ∷ args) are added local =
    let one = argument_added old added.0 it arg are.0 added.1 local in
    let rest = arguments_added added.0 new its args are.1 added.2 one.1 in
    (rw (← one.0) rest.0, rest.1)

command_added : (old new : Command) (name : Name) (command : Command) → IsCommandOf name command → AddsSubcommand old command new
    → app_of new ≡ with_subcommand (app_of old) (app_named name).top
unfolding app_of with_subcommand
command_added old new name command it added = rw (← it.0) (added.shape it.1)

-- Commands, likewise.
commands_added : (old new : Command) (names : List Name) (commands : List Command) → AllZip IsCommandOf names commands
    → AddsInTurn AddsSubcommand old commands new → app_of new ≡ with_commands (app_of old) names
unfolding with_commands
commands_added old new [] [] are added = ap app_of (sym added)
commands_added old new [] (command ∷ commands) are added = absurd are
commands_added old new (name ∷ names) [] are added = absurd are
commands_added old new (name ∷ names) (command ∷ commands) are added =
    rw (← command_added old added.0 name command are.0 added.1) (commands_added added.0 new names commands are.1 added.2)

pub with_commands_added : (old new : Command) (app : App) (names : List Name) (commands : List Command) → app_of old ≡ app
    → AllZip IsCommandOf names commands → AddsInTurn AddsSubcommand old commands new → app_of new ≡ with_commands app names
with_commands_added old new app names commands is are added = rw (← is) (commands_added old new names commands are added)

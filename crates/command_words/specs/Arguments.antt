-- What `clap` reads of the arguments of the commands.
use Rattle.std.specs.Prelude.{◌≡◌, Some, false, map, codes}
use Rattle.clap.specs.Lexer.{usize_max}
use Rattle.clap.specs.Words.{Rule}
use Rattle.clap.specs.declared.builder.action.ArgAction.TheVariants.{SetTrue}
use Rattle.clap.specs.declared.builder.value_parser.ValueParser.TheVariants as parser
use Rattle.clap.specs.declared.builder.arg.Arg.{Arg}
use Rattle.command_words.specs.ClapWords.{new_rule, rule_of}
use Rattle.command_words.specs.CommandLine.{bound_rule, depth_rule, files_rule, from_rule, import_bound_rule, fen_letters_rule, letters_rule, open_letters_rule, limit_rule, memo_rule, memory_rule}
use Rattle.command_words.specs.CommandLine.{most_lines_rule, shown_rule, solve_workers_rule, title_rule, tree_workers_rule, wanted}
use Rattle.command_words.specs.CommandLine.{words_rule, workers_rule}
use Rattle.command_words.specs.Flags.{rule_of_flag}
use Rattle.command_words.specs.declared.arguments.Argument.{Argument}
use Rattle.command_words.specs.declared.arguments.Argument.TheVariants as argument
use Rattle.command_words.specs.declared.rows.Form.{Form}
use Rattle.command_words.specs.declared.rows.Form.TheVariants as form
use Rattle.command_words.specs.declared.rows.Row.{Row}

-- an argument as the table has it, but for its form
abbrev pub plain_rule : Row → Rule
plain_rule row = record (new_rule row.id.now) { defaults = map (λ s. s.now) row.defaults.now; required = row.required }

abbrev pub formed : Row → Form → Rule
formed row form.Word = plain_rule row
formed row (form.Words least) = record (plain_rule row) { range = Some (record { start_inclusive = least; end_inclusive = usize_max }) }
formed row (form.Number least most) = record (plain_rule row) { parser = Some (parser.Signed least most) }
formed row form.TextOption = record (plain_rule row) { long = Some row.long.now }
formed row (form.NumberOption least most) = record (plain_rule row) { long = Some row.long.now; parser = Some (parser.Signed least most) }
formed row form.Flag = record (plain_rule row) { long = Some row.id.now; action = Some SetTrue }

-- an argument as the table has it
unfoldable pub row_rule : Row → Rule
row_rule row = formed row row.form

-- what is read of an argument
unfoldable pub argument_rule : Argument → Rule
argument_rule argument.Fen = wanted (codes "FEN")
argument_rule argument.Script = wanted (codes "SCRIPT")
argument_rule argument.Depth = depth_rule
argument_rule argument.Move = words_rule (codes "MOVE")
argument_rule argument.Word = words_rule (codes "WORD")
argument_rule argument.File = files_rule
argument_rule argument.Positions = files_rule
argument_rule argument.Bound = bound_rule
argument_rule argument.ImportBound = import_bound_rule
argument_rule argument.VerifyBound = import_bound_rule
argument_rule argument.Letters = letters_rule
argument_rule argument.ImportLetters = open_letters_rule
argument_rule argument.FenLetters = fen_letters_rule
argument_rule argument.Workers = workers_rule
argument_rule argument.SolveWorkers = solve_workers_rule
argument_rule argument.VerifyWorkers = solve_workers_rule
argument_rule argument.TreeWorkers = tree_workers_rule
argument_rule argument.Memo = memo_rule
argument_rule argument.Memos = memo_rule
argument_rule argument.Memory = memory_rule
argument_rule argument.From = from_rule
argument_rule argument.Limit = limit_rule
argument_rule argument.Shown = shown_rule
argument_rule argument.MostLines = most_lines_rule
argument_rule argument.Title = title_rule
argument_rule (argument.Flag it) = rule_of_flag it

-- an argument as it is named, for the command that it is given to alone
abbrev pub IsArgOf : Argument → Arg → Type 0
IsArgOf argument arg = (rule_of arg ≡ argument_rule argument) × (arg.global ≡ false)

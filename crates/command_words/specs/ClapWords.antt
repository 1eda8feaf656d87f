-- `clap`'s words for what a parse reads of a command line, shut, so that what is proved of a command stays as short as its text.
use Rattle.clap.specs.Words.{App, Rule, Shape, Text}
use Rattle.clap.specs.Words as clap
use Rattle.clap.specs.declared.builder.arg.Arg.{Arg}
use Rattle.clap.specs.declared.builder.command.Command.{Command}

-- what a parse reads of a command, and of an argument
unfoldable pub app_of : Command → App
app_of command = clap.app_of command

unfoldable pub rule_of : Arg → Rule
rule_of arg = clap.rule_of arg

-- of a command and of an argument that have a name and no more
unfoldable pub new_app : Text → App
new_app name = clap.new_app name

unfoldable pub new_rule : Text → Rule
new_rule id = clap.new_rule id

-- with one more argument, or one more command
unfoldable pub with_rule : App → Rule → App
with_rule app rule = clap.with_rule app rule

unfoldable pub with_subcommand : App → Shape → App
with_subcommand app shape = clap.with_subcommand app shape

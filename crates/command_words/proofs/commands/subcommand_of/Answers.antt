use Rattle.std.proofs.Common.{refl}
use Rattle.command_words.proofs.Tables.{commands_on_literals}
use Rattle.command_words.proofs.commands.subcommand_of.Goals as goal

pub returns-in-Moves : goal.returns-in-Moves
unfolding commands_on_literals
returns-in-Moves c = rw c.in-Moves.is refl

use Rattle.std.proofs.Common.{take}
use Rattle.std.specs.List.{AllZip}
use Rattle.command_words.specs.Commands.{IsCommandOf}
use Rattle.command_words.proofs.command_line.commands_of.Given as goal

abbrev pub invariant-loop-name : goal.invariant-loop-name
invariant-loop-name l = AllZip IsCommandOf (take l.name-index l.names) l.commands.items

use Rattle.std.proofs.Common.{take}
use Rattle.std.specs.List.{AllZip}
use Rattle.command_words.specs.Arguments.{IsArgOf}
use Rattle.command_words.proofs.command_line.args_of.Given as goal

abbrev pub invariant-loop-argument : goal.invariant-loop-argument
invariant-loop-argument l = AllZip IsArgOf (take l.argument-index l.arguments) l.args.items

use Rattle.std.proofs.Common.{length}
use Rattle.uci_engine.proofs.commands.command_in.Given as goal

abbrev pub decreases-loop-rest : goal.decreases-loop-rest
decreases-loop-rest l = length l.rest

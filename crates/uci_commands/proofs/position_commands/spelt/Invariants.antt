use Rattle.std.proofs.Common.{◌≡◌, ◌++◌, length, map}
use Rattle.uci_commands.specs.PositionCommands.{spelt}
use Rattle.uci_commands.proofs.position_commands.spelt.Given as goal

abbrev pub invariant-loop-rest : goal.invariant-loop-rest
invariant-loop-rest l = l.text.items ++ spelt (map (λ s. s.now) l.rest) ≡ spelt (map (λ s. s.now) l.words)

abbrev pub decreases-loop-rest : goal.decreases-loop-rest
decreases-loop-rest l = length l.rest

use Rattle.std.proofs.Common.{◌≡◌, length, map}
use Rattle.uci_commands.specs.Marks.{behind}
use Rattle.uci_commands.proofs.marks.behind.Given as goal

abbrev pub invariant-loop-rest : goal.invariant-loop-rest
invariant-loop-rest l = behind l.mark (map (λ s. s.now) l.rest) ≡ behind l.mark (map (λ s. s.now) l.words)

abbrev pub decreases-loop-rest : goal.decreases-loop-rest
decreases-loop-rest l = length l.rest

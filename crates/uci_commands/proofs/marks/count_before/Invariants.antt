use Rattle.std.proofs.Common.{◌≡◌, ◌++◌, drop, map, take}
use Rattle.uci_commands.specs.Marks.{before}
use Rattle.uci_commands.proofs.marks.count_before.Given as goal

abbrev pub invariant-loop-count : goal.invariant-loop-count
invariant-loop-count l =
    map (λ s. s.now) (take l.count l.words) ++ before l.mark (map (λ s. s.now) (drop l.count l.words)) ≡ before l.mark (map (λ s. s.now) l.words)

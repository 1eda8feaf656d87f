use Rattle.std.proofs.Common.{◌≡◌, ◌++◌, map, take}
use Rattle.fault_explanations.specs.Explained.{named}
use Rattle.fault_explanations.proofs.explaining.push_named.Given as goal

abbrev pub invariant-loop-word : goal.invariant-loop-word
invariant-loop-word l =
    map (λ e. e.now) l.found.items ≡ map (λ e. e.now) l.fn.found.items ++ named l.groups (map (λ w. w.now) (take l.word-index l.words))

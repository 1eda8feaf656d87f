use Rattle.std.proofs.Common.{◌≡◌, drop, map}
use Rattle.std.specs.List.{list_any}
use Rattle.stipulations.specs.Parts.{squeezed}
use Rattle.stipulations.specs.Patterns.{is_back}
use Rattle.stipulations.proofs.patterns.is_one_back.Given as goal

abbrev pub invariant-loop-back : goal.invariant-loop-back
invariant-loop-back l =
    list_any (is_back (squeezed l.text)) (map (λ back. back.now) (drop l.back-index l.backs))
    ≡ list_any (is_back (squeezed l.text)) (map (λ back. back.now) l.backs)

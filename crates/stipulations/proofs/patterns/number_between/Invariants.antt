use Rattle.std.proofs.Common.{◌≡◌, drop, map}
use Rattle.stipulations.specs.Parts.{squeezed}
use Rattle.stipulations.specs.Patterns.{number_between}
use Rattle.stipulations.proofs.patterns.number_between.Given as goal

abbrev pub invariant-loop-front : goal.invariant-loop-front
invariant-loop-front l =
    number_between l.language (map (λ front. front.now) (drop l.front-index l.fronts)) (map (λ back. back.now) l.backs) (squeezed l.text)
    ≡ number_between l.language (map (λ front. front.now) l.fronts) (map (λ back. back.now) l.backs) (squeezed l.text)

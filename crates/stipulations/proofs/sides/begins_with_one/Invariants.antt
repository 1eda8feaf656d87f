use Rattle.std.proofs.Common.{◌≡◌, drop}
use Rattle.std.specs.List.{list_any}
use Rattle.stipulations.specs.Parts.{squeezed}
use Rattle.stipulations.specs.Sides.{begins_with_front}
use Rattle.stipulations.proofs.sides.begins_with_one.Given as goal

abbrev pub invariant-loop-front : goal.invariant-loop-front
invariant-loop-front l = list_any (λ front. begins_with_front (squeezed l.text) front.now) (drop l.front-index l.fronts)
    ≡ list_any (λ front. begins_with_front (squeezed l.text) front.now) l.fronts

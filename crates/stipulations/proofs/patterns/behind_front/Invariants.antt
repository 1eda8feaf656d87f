use Rattle.std.proofs.Common.{◌≡◌, length}
use Rattle.stipulations.specs.Parts.{squeezed}
use Rattle.stipulations.specs.Patterns.{behind_front}
use Rattle.stipulations.proofs.patterns.behind_front.Given as goal

abbrev pub invariant-loop-front : goal.invariant-loop-front
invariant-loop-front l = behind_front l.front (squeezed l.rest) ≡ behind_front l.fn.front (squeezed l.text)

abbrev pub decreases-loop-front : goal.decreases-loop-front
decreases-loop-front l = length l.front

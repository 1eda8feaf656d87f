use Rattle.std.proofs.Common.{◌≡◌, length}
use Rattle.stipulations.specs.Men.{tells_other_men}
use Rattle.stipulations.proofs.men.tells_other_men.Given as goal

abbrev pub invariant-loop-rest : goal.invariant-loop-rest
invariant-loop-rest l = tells_other_men l.white l.black l.rest ≡ tells_other_men l.white l.black l.text

abbrev pub decreases-loop-rest : goal.decreases-loop-rest
decreases-loop-rest l = length l.rest

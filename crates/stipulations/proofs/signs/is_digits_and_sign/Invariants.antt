use Rattle.std.proofs.Common.{◌≡◌, length}
use Rattle.stipulations.specs.Signs.{is_digits_and_sign}
use Rattle.stipulations.proofs.signs.is_digits_and_sign.Given as goal

abbrev pub invariant-loop-rest : goal.invariant-loop-rest
invariant-loop-rest l = is_digits_and_sign l.rest ≡ is_digits_and_sign l.text

abbrev pub decreases-loop-rest : goal.decreases-loop-rest
decreases-loop-rest l = length l.rest

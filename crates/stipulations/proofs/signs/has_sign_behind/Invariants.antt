use Rattle.std.proofs.Common.{◌≡◌, length}
use Rattle.stipulations.specs.Signs.{has_sign_behind}
use Rattle.stipulations.proofs.signs.has_sign_behind.Given as goal

abbrev pub invariant-loop-rest : goal.invariant-loop-rest
invariant-loop-rest l = has_sign_behind l.rest ≡ has_sign_behind l.text

abbrev pub decreases-loop-rest : goal.decreases-loop-rest
decreases-loop-rest l = length l.rest

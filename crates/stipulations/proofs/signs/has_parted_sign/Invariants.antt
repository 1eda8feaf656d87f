use Rattle.std.proofs.Common.{◌≡◌, length}
use Rattle.chess_board.specs.Characters.{char}
use Rattle.stipulations.specs.Signs.{has_parted_sign}
use Rattle.stipulations.proofs.signs.has_parted_sign.Given as goal

abbrev pub invariant-loop-rest : goal.invariant-loop-rest
invariant-loop-rest l = has_parted_sign l.before l.rest ≡ has_parted_sign (char " ") l.text

abbrev pub decreases-loop-rest : goal.decreases-loop-rest
decreases-loop-rest l = length l.rest

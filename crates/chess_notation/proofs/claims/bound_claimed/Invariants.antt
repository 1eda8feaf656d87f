use Rattle.std.proofs.Common.{◌≡◌, length}
use Rattle.chess_notation.specs.Words.{words_in}
use Rattle.chess_notation.specs.Claims.{length_claimed}
use Rattle.chess_notation.proofs.claims.bound_claimed.Given as goal

abbrev pub invariant-loop-rest : goal.invariant-loop-rest
invariant-loop-rest l = length_claimed (words_in l.rest) l.default ≡ length_claimed (words_in l.words) l.default

abbrev pub decreases-loop-rest : goal.decreases-loop-rest
decreases-loop-rest l = length l.rest

use Rattle.std.proofs.Common.{◌≡◌, length}
use Rattle.std.specs.List.{list_all}
use Rattle.chess_notation.specs.Words.{words_in}
use Rattle.chess_notation.specs.Claims.{is_claim}
use Rattle.chess_notation.proofs.claims.are_claims.Given as goal

abbrev pub invariant-loop-rest : goal.invariant-loop-rest
invariant-loop-rest l = list_all (is_claim l.position) (words_in l.rest) ≡ list_all (is_claim l.position) (words_in l.words)

abbrev pub decreases-loop-rest : goal.decreases-loop-rest
decreases-loop-rest l = length l.rest

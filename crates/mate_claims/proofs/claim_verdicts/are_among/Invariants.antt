use Rattle.std.proofs.Common.{◌≡◌, true, take}
use Rattle.mate_claims.specs.ClaimVerdicts.{are_among}
use Rattle.mate_claims.proofs.claim_verdicts.are_among.Given as goal

abbrev pub invariant-loop-m : goal.invariant-loop-m
invariant-loop-m l = are_among l.others (take l.m-index l.moves) ≡ true

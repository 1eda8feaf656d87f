use Rattle.std.proofs.Common.{◌≡◌, ◌++◌, drop, false}
use Rattle.chess_notation.specs.Claims.{shut_from}
use Rattle.chess_notation.proofs.claims.claims_text.Given as goal

abbrev pub invariant-loop-byte : goal.invariant-loop-byte
invariant-loop-byte l = l.text.items ++ shut_from l.is_inside (drop l.byte-index l.byte-items) ≡ shut_from false l.byte-items

use Rattle.std.proofs.Common.{◌≡◌, ◌++◌, ◌==◌, drop, filter, not}
use Rattle.mate_claims.proofs.rows.unquoted_text.Given as goal

abbrev pub invariant-loop-byte : goal.invariant-loop-byte
invariant-loop-byte l = l.text.items ++ filter (λ b. not (b == 34)) (drop l.byte-index l.byte-items) ≡ filter (λ b. not (b == 34)) l.byte-items

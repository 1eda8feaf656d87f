use Rattle.std.proofs.Common.{◌≡◌, ◌++◌, ◌==◌, drop, filter, not}
use Rattle.problem_sheets.proofs.problems.unquoted_text.Given as goal

abbrev pub invariant-loop-byte : goal.invariant-loop-byte
invariant-loop-byte l = l.text.items ++ filter (λ b. not (b == 34)) (drop l.byte-index l.operands) ≡ filter (λ b. not (b == 34)) l.operands

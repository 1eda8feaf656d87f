use Rattle.std.proofs.Common.{◌≡◌, ◌++◌}
use Rattle.fen_explanations.specs.Checks.{attackers_told}
use Rattle.fen_explanations.specs.Sentences.{each_below}
use Rattle.fen_explanations.proofs.checks.push_checks.Given as goal

abbrev pub invariant-loop-number : goal.invariant-loop-number
invariant-loop-number l = l.text.items ≡ l.fn.text.items ++ each_below l.number (λ king. attackers_told l.men l.colour king)

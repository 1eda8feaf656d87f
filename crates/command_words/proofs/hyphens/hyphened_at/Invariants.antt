use Rattle.std.proofs.Common.{◌≡◌, ◌≤◌, ◌+◌, length, map}
use Rattle.command_words.specs.Hyphens.{hyphened_at}
use Rattle.command_words.proofs.hyphens.hyphened_at.Given as goal

abbrev pub invariant-loop-rest : goal.invariant-loop-rest
invariant-loop-rest l = record {
  at : hyphened_at l.name l.at (map (λ s. s.now) l.rest) ≡ hyphened_at l.name 2 (map (λ s. s.now) l.words);
  within : l.at + length l.rest ≤ 2 + length l.words;
}

abbrev pub decreases-loop-rest : goal.decreases-loop-rest
decreases-loop-rest l = length l.rest

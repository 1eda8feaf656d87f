use Rattle.std.proofs.Common.{◌≡◌, ◌≤◌, ◌+◌, length, map}
use Rattle.command_words.specs.LineCommands.{lines_at}
use Rattle.command_words.proofs.line_commands.lines_at.Given as goal

abbrev pub invariant-loop-rest : goal.invariant-loop-rest
invariant-loop-rest l = record {
  at : lines_at l.name l.at (map (λ s. s.now) l.rest) ≡ lines_at l.name 2 (map (λ s. s.now) l.words);
  within : l.at + length l.rest ≤ 2 + length l.words;
  behind : 2 ≤ l.at;
}

abbrev pub decreases-loop-rest : goal.decreases-loop-rest
decreases-loop-rest l = length l.rest

use Rattle.std.proofs.Common.{◌≡◌, ◌+◌, ◌<◌, ◌^◌, length}
use Rattle.text_lines.specs.Lines.{lines_of}
use Rattle.desk_scripts.specs.Scripts.{said_from}
use Rattle.desk_scripts.proofs.script_lines.Lines.next.Given as goal

abbrev pub invariant-loop-self : goal.invariant-loop-self
invariant-loop-self l = record {
  said : said_from (l.initial.self-inside.passed + 1) (lines_of l.initial.self-inside.rest.now)
      ≡ said_from (l.self-inside.passed + 1) (lines_of l.self-inside.rest.now);
  within : l.self-inside.passed + length l.self-inside.rest.now < 2 ^ 64;
}

abbrev pub decreases-loop-self : goal.decreases-loop-self
decreases-loop-self l = length l.self-inside.rest.now

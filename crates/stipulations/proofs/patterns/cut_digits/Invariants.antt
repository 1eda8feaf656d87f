use Rattle.std.proofs.Common.{◌≡◌, ◌++◌, take, drop}
use Rattle.std.specs.Char.{is_ascii_digit}
use Rattle.stipulations.specs.Patterns.{behind_run, run}
use Rattle.stipulations.proofs.patterns.cut_digits.Given as goal

abbrev pub invariant-loop-index : goal.invariant-loop-index
invariant-loop-index l = record {
  run : take l.index l.text ++ run is_ascii_digit (drop l.index l.text) ≡ run is_ascii_digit l.text;
  behind : behind_run is_ascii_digit (drop l.index l.text) ≡ behind_run is_ascii_digit l.text;
}

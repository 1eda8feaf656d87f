use Rattle.std.proofs.Common.{◌≡◌, ◌++◌, drop, take}
use Rattle.problem_import.specs.Sources.{before_byte, behind_byte}
use Rattle.problem_import.proofs.texts.cut_at.Given as goal

abbrev pub invariant-loop-index : goal.invariant-loop-index
invariant-loop-index l = record {
  before : take l.index l.text ++ before_byte l.byte (drop l.index l.text) ≡ before_byte l.byte l.text;
  behind : behind_byte l.byte (drop l.index l.text) ≡ behind_byte l.byte l.text;
}

use Rattle.std.proofs.Common.{◌≡◌, ◌++◌, take, drop}
use Rattle.std.specs.Char.{is_ascii_alphabetic}
use Rattle.problem_import.specs.Solutions.{behind_front, front_of}
use Rattle.problem_import.proofs.solutions.cut_letters.Given as goal

abbrev pub invariant-loop-index : goal.invariant-loop-index
invariant-loop-index l = record {
  front : take l.index l.text ++ front_of is_ascii_alphabetic (drop l.index l.text) ≡ front_of is_ascii_alphabetic l.text;
  behind : behind_front is_ascii_alphabetic (drop l.index l.text) ≡ behind_front is_ascii_alphabetic l.text;
}

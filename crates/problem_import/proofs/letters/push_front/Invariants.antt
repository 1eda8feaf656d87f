use Rattle.std.proofs.Common.{◌≡◌, ◌++◌, true, length}
use Rattle.std.specs.List.{list_all}
use Rattle.problem_import.specs.Letters.{is_plain_byte, plain_front}
use Rattle.problem_import.proofs.letters.push_front.Given as goal

abbrev pub invariant-loop-rest : goal.invariant-loop-rest
invariant-loop-rest l = record {
  front : l.text.items ++ plain_front l.rest ≡ l.initial.text.items ++ plain_front l.line;
  back : list_all is_plain_byte l.line ≡ true → list_all is_plain_byte l.rest ≡ true;
}

abbrev pub decreases-loop-rest : goal.decreases-loop-rest
decreases-loop-rest l = length l.rest
